use Rattle.std.proofs.Common.{ℕ, List, ◌++◌, ap, ◌∙◌, inr}
use Rattle.std.proofs.lemmas.List.{append_assoc}
use Rattle.bt_cli.proofs.capture.say_three.Goals as goal

pub returns-in-Err : goal.returns-in-Err
returns-in-Err g c =
    let w = c.in-Err.ensures.written in
    let rest : List ℕ = c.args.second.now ++ c.args.third.now in
    inr (c.in-Err.ensures.failed, (w.0, w.1 ++ rest, ap (λ (l : List ℕ). l ++ rest) w.2 ∙ append_assoc w.0 w.1 rest, w.3))
