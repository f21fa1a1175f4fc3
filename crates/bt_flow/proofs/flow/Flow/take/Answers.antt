use Rattle.std.proofs.Common.{◌≡◌, ℕ, ◌-◌, List, ◌++◌, length, length-append, append_assoc, take, drop, refl, sym, ap, subst, ◌∙◌, arith}
use Rattle.std.proofs.lemmas.Grind.{common_steps}
use Rattle.std.specs.List.{slice_rotate_right}
use Rattle.bt_flow.specs.Flows.{FlowTakes}
use Rattle.bt_flow.proofs.flow.Flow.take.Goals as goal

rotated : (rest fresh : List ℕ) (k : ℕ) → k ≡ length fresh → slice_rotate_right (rest ++ fresh) k ≡ fresh ++ rest
rotated rest fresh k e =
    let n : length (rest ++ fresh) - k ≡ length rest = omega (arith, e, length-append rest fresh) in
    grind (arith, common_steps)

turned : (given rest fresh xs : List ℕ) (n k : ℕ) → xs ≡ given ++ (rest ++ fresh) → n ≡ length given → k ≡ length fresh
    → take n xs ++ slice_rotate_right (drop n xs) k ≡ given ++ (fresh ++ rest)
turned given rest fresh xs n k e l m =
    let front : take n xs ≡ given = grind (arith, common_steps) in
    let back : drop n xs ≡ rest ++ fresh = grind (arith, common_steps) in
    ap (λ x. x ++ slice_rotate_right (drop n xs) k) front ∙ ap (λ x. given ++ slice_rotate_right x k) back ∙ ap (λ x. given ++ x) (rotated rest fresh k m)

as_long : (given rest fresh : List ℕ) → length (given ++ (fresh ++ rest)) ≡ length (given ++ (rest ++ fresh))
as_long given rest fresh =
    omega (arith, length-append given (fresh ++ rest), length-append fresh rest, length-append given (rest ++ fresh), length-append rest fresh)

-- The slice is as long as the vector, so all of that is written.
whole : (xs zs : List ℕ) (n : ℕ) → n ≡ length xs → take n (xs ++ drop (length xs) zs) ≡ xs
whole xs zs n e = grind (arith, common_steps)

pub returns : goal.returns
returns c =
    let t = c.in_ok-fresh.ensures in
    let fresh = c.in_ok-fresh.fresh.now in
    let given = c.args.out.now.items in
    let old : c.deref_mut.result.now ≡ given ++ (t.rest ++ fresh)
    = c.deref_mut.ensures.value ∙ c.in_ok-extend_from_slice.ensures.items ∙ ap (λ x. x ++ fresh) t.is ∙ append_assoc given t.rest fresh in
    let new : c.turn.new.bytes ≡ given ++ (fresh ++ t.rest) = c.turn.ensures ∙ turned given t.rest fresh c.deref_mut.result.now c.len-before.result _ old
    (omega (arith, c.len-before.ensures)) refl in
    let l : c.extend_from_slice.new.self.len ≡ length c.turn.new.bytes = (
    let n : length c.turn.new.bytes ≡ length c.deref_mut.result.now = ap length new ∙ as_long given t.rest fresh ∙ sym (ap length old) in
    omega (arith, n, c.extend_from_slice.new.self.ok.0)) in
    let all = whole c.turn.new.bytes c.extend_from_slice.new.self.items c.extend_from_slice.new.self.len l ∙ new in
    subst (λ x. FlowTakes c.args.given.now c.args.self.now given c.take_next.new.self x) (sym all) (t.more given)
