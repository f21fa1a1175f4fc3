use Rattle.std.proofs.Common.{arith}
use Rattle.bt_flow.specs.Pages.{byte_of}
use Rattle.bt_flow.proofs.WideProofs.{merged_is}
use Rattle.bt_flow.proofs.far.Far.merged.Goals as goal

pub returns-clause-first : goal.returns-clause-first
returns-clause-first c = merged_is c.args.at c.loop-j.all.items c.args.part.now (byte_of c.args.self.now.pages) (omega arith)
    (λ k h. c.loop-j.invariant.first k (omega arith))
