use Rattle.std.proofs.Common.{◌≡◌, ◌∙◌, ℕ, min, List, ◌++◌, length, drop, unwrap_or, ap, subst, arith}
use Rattle.std.proofs.lemmas.List.{drop_min}
use Rattle.bt_talk.specs.declared.stage.Stage.{Stage}
use Rattle.bt_talk.specs.Stages.{IsStage}
use Rattle.bt_talk.proofs.direction.Direction.hand_out.Goals as goal

pub returns-in_ok-extend_from_slice-in-Opening : goal.returns-in_ok-extend_from_slice-in-Opening
returns-in_ok-extend_from_slice-in-Opening c = λ terms p other d o.
    let s = subst (λ (s : Stage). IsStage terms p other s) c.in-Opening.is d.stage in
    let front = c.in-Opening.front.items in
    let start = unwrap_or c.start.result 0 in
    let n : c.min-start.result ≡ min start (length front) = omega (arith, c.min-start.ensures, c.unwrap_or.ensures, c.len.ensures) in
    let kept : c.split_at.result.1.now ≡ drop start p.out =
    c.split_at.ensures.back ∙ ap (drop c.min-start.result) c.deref.ensures.value ∙ ap (λ (k : ℕ). drop k front) n ∙ drop_min start front
    ∙ ap (drop start) s.0 in
    (c.start.result, c.start.ensures p.front d.intro, c.in_ok-extend_from_slice-in-Opening.ensures.items ∙ ap (λ (l : List ℕ). c.args.out.now.items ++ l) kept)
