use Rattle.std.proofs.Common.{◌≡◌, ℕ, ◌/◌, ◌≤◌, List, [], ◌∷◌, ◌++◌, length, take, drop, false, refl, sym, ap, ◌∙◌, arith, inl, inr}
use Rattle.std.proofs.lemmas.Grind.{common_steps}
use Rattle.std.proofs.lemmas.Bool.{cases_lt}
use Rattle.std.proofs.lemmas.List.{get_or_past}
use Rattle.std.specs.List.{AllZip}
use Rattle.bt_tcp.specs.Bits.{flag}
use Rattle.bt_tcp.specs.Cells.{slot_of}
use Rattle.bt_tcp.proofs.BitProofs.{flag-whole}
use Rattle.bt_tcp.proofs.rings.lengthen_flags.Goals as goal

written : {X : Type 0} (n : ℕ) (xs ys : List X) → length xs ≡ n → length ys ≡ n → take n (xs ++ drop (length xs) ys) ≡ xs
written n xs ys p q = grind (arith, common_steps)

known_is : (c : goal.After-drop-before-2)
    → take c.resize.new.self.len (c.turn_flags.new.to ++ drop (length c.turn_flags.new.to) c.resize.new.self.items) ≡ c.turn_flags.new.to
known_is c =
    let l : length c.resize.new.self.items ≡ c.resize.new.self.len = ap length (sym c.deref_mut.ensures.value) ∙ c.deref_mut.ensures.len in
    let m : length c.turn_flags.new.to ≡ c.resize.new.self.len = c.turn_flags.auto.to ∙ c.deref_mut.ensures.len in
    written c.resize.new.self.len c.turn_flags.new.to c.resize.new.self.items m l

same_items : (xs ys : List ℕ) → AllZip (λ x y. y ≡ x) xs ys → ys ≡ xs
same_items [] [] z = refl
same_items [] (y ∷ ys) z = absurd z
same_items (x ∷ xs) [] z = absurd z
same_items (x ∷ xs) (y ∷ ys) z = ap (λ a. a ∷ ys) z.0 ∙ ap (λ zs. x ∷ zs) (same_items xs ys z.1)

before_is : (c : goal.After-drop-before-2) → c.deref.result.now ≡ c.args.known.now.items
before_is c = c.deref.ensures.value ∙ same_items c.args.known.now.items c.in_ok-before.before.items c.in_ok-before.ensures.cases.0

pub returns-clause-turned : goal.returns-clause-turned
returns-clause-turned c = λ k h. ap (λ xs. flag xs k) (known_is c) ∙ c.turn_flags.ensures.turned k h
    ∙ ap (λ xs. flag xs (slot_of c.args.len c.args.head k)) (before_is c)

pub returns-clause-rest : goal.returns-clause-rest
returns-clause-rest c = λ k h. (
    let l : length c.resize.new.self.items ≡ c.resize.new.self.len = ap length (sym c.deref_mut.ensures.value) ∙ c.deref_mut.ensures.len in
    let o : length c.args.known.now.items ≤ k / 8 = omega (arith, c.requires.len, h) in
    ap (λ xs. flag xs k) (known_is c) ∙ c.turn_flags.ensures.rest k h ∙ ap (λ xs. flag xs k) c.deref_mut.ensures.value
    ∙ flag-whole c.resize.new.self.items k false (elim (cases_lt (k / 8) c.resize.new.self.len) [
      | inl q ↦ c.in_ok-resize.ensures.by_index.1 (k / 8) 0 refl (omega (arith, o, c.in_ok-reserve_exact.ensures.len))
          (omega (arith, q, c.in_ok-resize.ensures.len))
      | inr q ↦ get_or_past c.resize.new.self.items (k / 8) 0 (omega (arith, l, q))
    ]))
