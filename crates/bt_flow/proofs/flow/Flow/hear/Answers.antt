use Rattle.std.proofs.Common.{refl}
use Rattle.bt_flow.proofs.Flows.{hears_one}
use Rattle.bt_flow.proofs.flow.Flow.hear.Goals as goal

pub returns-clause-heard : goal.returns-clause-heard
returns-clause-heard c = hears_one c.args.acked c.args.opens c.args.self.now _ c.hear.result refl refl c.hear.ensures.heard c.hear.ensures.counts
    c.hear.ensures.refused c.hear.ensures.kept
