use Rattle.std.proofs.Common.{◌≡◌, ◌∙◌, ◌+◌, ◌-◌, ◌^◌, min, length, arith}
use Rattle.bt_talk.proofs.Talks.{over_same}
use Rattle.bt_talk.proofs.sides.is_over.Goals as goal

pub returns : goal.returns
returns c = λ terms p q d e o n.
    let a : c.kept.result ≡ length p.front = c.kept.ensures terms p q d o in
    let b : c.kept-2.result ≡ length q.front = c.kept-2.ensures terms q p e n in
    let sum : c.saturating_add-bytes.result ≡ min (length p.front + length q.front) (2 ^ 64 - 1) = omega (arith, c.saturating_add-bytes.ensures, a, b) in
    record {
      settled = c.is_settled.result;
      described = c.is_settled.ensures p.front q.front d.intro e.intro;
      is = c.is_long.ensures ∙ over_same c.is_settled.result c.saturating_add-bytes.result (length p.front + length q.front) c.args.segments sum;
    }
