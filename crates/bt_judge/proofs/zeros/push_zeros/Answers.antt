use Rattle.std.proofs.Common.{◌≡◌, ◌+◌, ◌-◌, ◌∙◌, ℕ, length, min, ap, subst, arith}
use Rattle.std.proofs.lemmas.List.{length-replicate}
use Rattle.bt_judge.specs.Holes.{AreZerosPushed}
use Rattle.bt_judge.proofs.Pushing.{pushes_more}
use Rattle.bt_judge.proofs.zeros.push_zeros.Goals as goal

pub zeros-preserved : goal.zeros-preserved
zeros-preserved c =
    let f = c.args.feed.now in
    let left = c.zeros.left in
    let piece = c.zeros-piece.result.now in
    let some = min left 4096 in
    let size : length piece ≡ some = ap length c.zeros-piece.ensures ∙ length-replicate some 0 in
    let h = c.push-left.new.self in
    let place : c.args.n - left + some ≡ c.args.n - (left - length piece) = omega (arith, size, c.zeros.invariant.within) in
    record {
      within = omega (arith, c.zeros.invariant.within);
      pushed = subst (λ (k : ℕ). AreZerosPushed f k h) place
          (pushes_more f c.zeros.feed h (c.args.n - left) some piece c.zeros.invariant.pushed c.zeros-piece.ensures c.push-left.ensures.held);
    }
