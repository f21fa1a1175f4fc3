use Rattle.std.proofs.Common.{refl, arith}
use Rattle.std.specs.Prelude.{None}
use Rattle.std.proofs.lemmas.Grind.{common_steps}
use Rattle.bt_flow.proofs.PageProofs.{lengthened}
use Rattle.bt_flow.proofs.pages.lengthen.Goals as goal

pub returns-in_ok-resize-clause-cells : goal.returns-in_ok-resize-clause-cells
returns-in_ok-resize-clause-cells c =
    let e = c.in_ok-resize.ensures in
    lengthened c.args.page.now.items c.resize.new.self.items (omega arith) (grind (arith, common_steps))
    (λ k a b. e.by_index.0 k None a (omega (arith, b))) (λ k a b. e.by_index.1 k None refl (omega (arith, a)) b)
