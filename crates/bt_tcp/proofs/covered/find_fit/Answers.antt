use Rattle.std.proofs.Common.{◌∷◌, ◌++◌, drop, take, sym, ap, ◌∙◌}
use Rattle.std.proofs.lemmas.List.{take_rest, drop-drop}
use Rattle.bt_tcp.specs.Covered.{join}
use Rattle.bt_tcp.proofs.covered.find_fit.Goals as goal

pub returns-clause-added : goal.returns-clause-added
returns-clause-added c =
    let spans = c.args.spans.now in
    let before = c.count_before-before.result in
    c.count_before-before.ensures.added ∙ ap (λ y. take before spans ++ y)
    (ap (join c.args.span) (sym (take_rest spans before)) ∙ c.joined-touched.ensures.joined
    ∙ ap (λ y. c.joined-touched.result.0 ∷ drop c.joined-touched.result.1 y) (take_rest spans before)
    ∙ ap (λ y. c.joined-touched.result.0 ∷ y) (drop-drop c.joined-touched.result.1 before spans))
