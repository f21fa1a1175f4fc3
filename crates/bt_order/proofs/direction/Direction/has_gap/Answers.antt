use Rattle.std.proofs.Common.{◌≡◌, Bool, true, false, not, ap, sym, subst, ◌∙◌, refl, inl, inr}
use Rattle.bt_order.specs.Streams.{packet_at}
use Rattle.bt_order.specs.Held.{held_at}
use Rattle.bt_order.specs.Directions.{IsPassed, is_open, is_lost}
use Rattle.bt_order.proofs.Taking.{open_state}
use Rattle.bt_order.proofs.Gaps.{held_is_gap, none_is_no_gap, finished_has_no_gap, cut_is_gap}
use Rattle.bt_order.proofs.direction.Direction.has_gap.Goals as goal

flipped : (b : Bool) → not b ≡ false → b ≡ true
flipped true e = refl
flipped false e = cc

flipped_back : (b : Bool) → not b ≡ true → b ≡ false
flipped_back true e = cc
flipped_back false e = refl

pub returns-in-Open-clause-gap : goal.returns-in-Open-clause-gap
returns-in-Open-clause-gap c ps out h found holds =
    let d = c.args.self.now in
    let o : is_open d.course ≡ true = ap is_open c.in-Open.is in
    let some = c.is_empty.ensures.some (flipped_back c.is_empty.result holds) in
    held_is_gap ps out d.next (held_at d.held) (open_state (packet_at ps) out d.course d.next (held_at d.held) o h.state) (h.awaited o) some.0 some.1

pub returns-in-Open-clause-none : goal.returns-in-Open-clause-none
returns-in-Open-clause-none c ps out h holds =
    let d = c.args.self.now in
    let o : is_open d.course ≡ true = ap is_open c.in-Open.is in
    none_is_no_gap ps out d.next (held_at d.held) (open_state (packet_at ps) out d.course d.next (held_at d.held) o h.state) (h.awaited o)
    (c.is_empty.ensures.none (flipped c.is_empty.result holds))

pub returns-in-Finished-clause-none : goal.returns-in-Finished-clause-none
returns-in-Finished-clause-none c ps out h holds =
    let d = c.args.self.now in
    finished_has_no_gap ps out d.next (subst (λ k. IsPassed (packet_at ps) out k d.next (held_at d.held)) c.in-Finished.is h.state)

pub returns-in-Cut-clause-gap : goal.returns-in-Cut-clause-gap
returns-in-Cut-clause-gap c ps out h found same =
    let d = c.args.self.now in
    elim c.in-Cut.is [
      | inl is ↦ cut_is_gap ps out d.next (subst (λ k. IsPassed (packet_at ps) out k d.next (held_at d.held)) is h.state)
      | inr is ↦ let lost : true ≡ false = sym (ap is_lost is) ∙ found in cc
    ]
