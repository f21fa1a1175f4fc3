use Rattle.std.proofs.Common.{◌≤◌, ◌-◌, ◌∙◌, ℕ, List, length, drop, take_all, subst, arith}
use Rattle.std.proofs.lemmas.List.{length-drop}
use Rattle.bt_run.specs.Runs.{IsSaid}
use Rattle.bt_run.proofs.run.say_refused.Goals as goal

pub returns : goal.returns
returns g c =
    let P : List ℕ → Type 0 = λ l. IsSaid l (g.E.Target.seen c.args.errors.now) (g.E.Target.seen c.say.new.errors) in
    let n = c.refused_line-place.result in
    let l = c.refused_line-place.new.line in
    let short : length (drop n l) ≤ 160 - n = omega (arith, length-drop n l, c.refused_line-place.array_long) in
    subst P (take_all (160 - n) (drop n l) short ∙ c.refused_line-place.ensures.text) c.say.ensures
