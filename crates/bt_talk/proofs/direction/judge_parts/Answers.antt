use Rattle.std.proofs.Common.{◌≡◌, ◌∙◌, ◌++◌, ℕ, List, [], append_assoc, append-nil, sym, ap, subst, arith}
use Rattle.std.proofs.lemmas.Grind.{common_steps}
use Rattle.bt_feed.proofs.Moving.{took_both}
use Rattle.bt_judge.specs.Judges.{AreJudged}
use Rattle.bt_judge.specs.declared.judge.Judge.{Judge}
use Rattle.bt_wire.specs.declared.context.Own.{Own}
use Rattle.bt_wire.specs.declared.item.Item.{Item}
use Rattle.bt_talk.specs.Watching.{Watches}
use Rattle.bt_talk.proofs.direction.judge_parts.Goals as goal

both_parts : (own : Own) (b fresh later : List ℕ) (xs x1 x2 ys y1 y2 : List (ℕ × Item)) (judge : Judge)
    → AreJudged own ((b ++ fresh) ++ later) ((xs ++ x1) ++ x2) ((ys ++ y1) ++ y2) judge
    → AreJudged own (b ++ (fresh ++ later)) (xs ++ (x1 ++ x2)) (ys ++ (y1 ++ y2)) judge
both_parts own b fresh later xs x1 x2 ys y1 y2 judge j =
    subst (λ (l : List ℕ). AreJudged own l (xs ++ (x1 ++ x2)) (ys ++ (y1 ++ y2)) judge) (append_assoc b fresh later)
    (subst (λ (l : List (ℕ × Item)). AreJudged own ((b ++ fresh) ++ later) l (ys ++ (y1 ++ y2)) judge) (append_assoc xs x1 x2)
    (subst (λ (l : List (ℕ × Item)). AreJudged own ((b ++ fresh) ++ later) ((xs ++ x1) ++ x2) l judge) (append_assoc ys y1 y2) j))

pub returns-then-is_empty : goal.returns-then-is_empty
returns-then-is_empty c = λ own b xs ys j.
    let d = c.in_ok-judge_bytes.ensures own b xs ys j in
    let none : c.args.later.now ≡ [] = grind (arith, common_steps) in
    let all = sym (ap (λ (l : List ℕ). c.args.fresh.now ++ l) none ∙ append-nil c.args.fresh.now) in (
      d.0,
      d.1,
      subst (λ (l : List ℕ). AreJudged own (b ++ l) (xs ++ d.0) (ys ++ d.1) c.judge_bytes.new.judge) all d.2,
      d.3,
    )

pub returns : goal.returns
returns c = λ own b xs ys j.
    let fresh = c.args.fresh.now in
    let d = c.in_ok-judge_bytes.ensures own b xs ys j in
    let e = c.in_ok-judge_bytes-2.ensures own (b ++ fresh) (xs ++ d.0) (ys ++ d.1) d.2 in (
      d.0 ++ e.0,
      d.1 ++ e.1,
      both_parts own b fresh c.args.later.now xs d.0 e.0 ys d.1 e.1 c.judge_bytes-2.new.judge e.2,
      took_both Watches c.args.watch.now c.judge_bytes.new.watch c.judge_bytes-2.new.watch d.0 e.0 d.3 e.3,
    )
