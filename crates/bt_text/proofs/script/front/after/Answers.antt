use Rattle.std.proofs.Common.{◌≡◌, ◌∙◌, ◌++◌, ℕ, List, drop, sym, ap}
use Rattle.std.proofs.lemmas.Bool.Decides.{Decides-eqb}
use Rattle.std.proofs.lemmas.List.{take-append-drop}
use Rattle.std.proofs.lemmas.Slice.Eq.{slice_eq-Decides}
use Rattle.bt_text.proofs.script.front.after.Goals as goal

pub returns-then-eq : goal.returns-then-eq
returns-then-eq g c =
    let text = c.args.text.now in
    let cut = c.in_ok-head.ensures.cases in
    let same : c.in_ok-head.head.now ≡ c.args.front.now = (slice_eq-Decides Decides-eqb _ _ c.eq.result c.eq.ensures).0 c.if-eq.true in
    sym (take-append-drop _ text) ∙ ap (λ (l : List ℕ). l ++ drop _ text) (sym cut.0 ∙ same) ∙ ap (λ (l : List ℕ). c.args.front.now ++ l) (sym cut.1)
