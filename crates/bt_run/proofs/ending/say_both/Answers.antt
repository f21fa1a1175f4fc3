use Rattle.std.proofs.Common.{ℕ, List, ◌++◌, ap, ◌∙◌, inr}
use Rattle.std.proofs.lemmas.List.{append_assoc}
use Rattle.bt_run.proofs.ending.say_both.Goals as goal

pub returns-in-Err : goal.returns-in-Err
returns-in-Err g c =
    let w = c.in-Err.ensures.written in
    let t = c.args.text.now in
    inr (c.in-Err.ensures.failed, (w.0, w.1 ++ t, ap (λ (l : List ℕ). l ++ t) w.2 ∙ append_assoc w.0 w.1 t, w.3))
