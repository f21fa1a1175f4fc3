-- The connection whose stream is told.
use Rattle.std.proofs.Common.{◌≡◌, ◌∙◌, ◌⊎◌, ◌==◌, ℕ, ◌<◌, ◌≤◌, nat_le, true, false, Option, Some, None, is_some, refl, sym, ap, subst, arith, inl, inr}
use Rattle.std.proofs.lemmas.Bool.{cases_Bool}
use Rattle.std.proofs.lemmas.Bool.Decides.{nat_tests}
use Rattle.bt_remarks.specs.declared.events.Side.{Side}
use Rattle.bt_capture.specs.declared.ending.Form.{Form}
use Rattle.bt_capture.specs.Forms.{is_stream, side_of, wanted_by, number_from, absent_from}

equal : (m n : ℕ) → (m == n) ≡ true → m ≡ n
equal m n e = grind (arith, nat_tests)

differs : (m n : ℕ) → (m ≡ n → ⊥) → (m == n) ≡ false
differs m n e = grind (arith, nat_tests)

equal_self : (n : ℕ) → (n == n) ≡ true
equal_self n = grind (arith, nat_tests)

below : (m n : ℕ) → nat_le m n ≡ false → n < m
below m n e = grind (arith, nat_tests)

reaches : (m n : ℕ) → nat_le m n ≡ true → m ≤ n
reaches m n e = grind (arith, nat_tests)

reached : (m n : ℕ) → m ≤ n → nat_le m n ≡ true
reached m n e = grind (arith, nat_tests)

-- It is one connection's.
wants_one : (s : Option (ℕ × Side)) (m n : ℕ) (side : Side) → side_of m s ≡ Some side → (m ≡ n → ⊥) → side_of n s ≡ None
wants_one None m n side e other = refl
wants_one (Some s) m n side e other = elim (cases_Bool (s.0 == m)) [
  | inl t ↦ let at : s.0 ≡ m = equal s.0 m t in rw (differs s.0 n (λ same. other (sym at ∙ same))) refl
  | inr f ↦ let none : None ≡ Some side = rw f at e in cc
]

-- Its connection hasn't begun.
absent_at : (s : Option (ℕ × Side)) (begun n : ℕ) → number_from begun s ≡ Some n
    → (begun ≤ n) × (is_some s ≡ true) × ((m : ℕ) → (m ≡ n → ⊥) → side_of m s ≡ None)
absent_at None begun n e = cc
absent_at (Some s) begun n e = elim (cases_Bool (nat_le begun s.0)) [
  | inl t ↦
      let some : Some s.0 ≡ Some n = rw t at e in
      let at : s.0 ≡ n = cc in
      (subst (λ k. begun ≤ k) at (reaches begun s.0 t), refl, λ m other. rw (differs s.0 m (λ same. other (sym same ∙ at))) refl)
  | inr f ↦ let none : None ≡ Some n = rw f at e in cc
]

absent_less : (s : Option (ℕ × Side)) (before begun n : ℕ) → before ≤ begun → number_from begun s ≡ Some n → number_from before s ≡ Some n
absent_less None before begun n le e = e
absent_less (Some s) before begun n le e = elim (cases_Bool (nat_le begun s.0)) [
  | inl t ↦
      let some : Some s.0 ≡ Some n = rw t at e in
      let le' : before ≤ s.0 = omega (arith, le, reaches begun s.0 t) in
      rw (reached before s.0 le') some
  | inr f ↦ let none : None ≡ Some n = rw f at e in cc
]

wanted_absent : (s : Option (ℕ × Side)) (n : ℕ) (side : Side) → side_of n s ≡ Some side → number_from n s ≡ Some n
wanted_absent None n side e = cc
wanted_absent (Some s) n side e = elim (cases_Bool (s.0 == n)) [
  | inl t ↦ let at : s.0 ≡ n = equal s.0 n t in let le : n ≤ s.0 = omega (arith, at) in rw (reached n s.0 le) (ap (λ k. Some k) at)
  | inr f ↦ let none : None ≡ Some side = rw f at e in cc
]

-- It has begun, or it hasn't.
begun_or : (s : Option (ℕ × Side)) (begun n : ℕ) (side : Side) → s ≡ Some (n, side) → (n < begun) ⊎ (number_from begun s ≡ Some n)
begun_or s begun n side asked = elim (cases_Bool (nat_le begun n)) [
  | inl t ↦ let at : number_from begun (Some (n, side)) ≡ Some n = rw t refl in inr (subst (λ o. number_from begun o ≡ Some n) (sym asked) at)
  | inr f ↦ inl (below begun n f)
]

asked_is : (s : Option (ℕ × Side)) (n : ℕ) (side : Side) → s ≡ Some (n, side) → side_of n s ≡ Some side
asked_is s n side asked =
    let at : side_of n (Some (n, side)) ≡ Some side = rw (equal_self n) refl in
    subst (λ o. side_of n o ≡ Some side) (sym asked) at

wanted_is : (s : Option (ℕ × Side)) (n : ℕ) (side : Side) → side_of n s ≡ Some side → is_some s ≡ true
wanted_is None n side e = cc
wanted_is (Some s) n side e = refl

module _ (form : Form) where
  pub begun_or_absent : (begun n : ℕ) (side : Side) → form.stream ≡ Some (n, side) → (n < begun) ⊎ (absent_from form begun ≡ Some n)
  begun_or_absent begun n side asked = begun_or form.stream begun n side asked

  pub wanted_if_asked : (n : ℕ) (side : Side) → form.stream ≡ Some (n, side) → wanted_by form n ≡ Some side
  wanted_if_asked n side asked = asked_is form.stream n side asked

  pub wanted_stream : (n : ℕ) (side : Side) → wanted_by form n ≡ Some side → is_stream form ≡ true
  wanted_stream n side e = wanted_is form.stream n side e

  pub wants_other : (m n : ℕ) (side : Side) → wanted_by form m ≡ Some side → (m ≡ n → ⊥) → wanted_by form n ≡ None
  wants_other m n side e other = wants_one form.stream m n side e other

  pub unwanted : (begun n : ℕ) → absent_from form begun ≡ Some n → (begun ≤ n) × (is_stream form ≡ true) × ((m : ℕ) → (m ≡ n → ⊥) → wanted_by form m ≡ None)
  unwanted begun n e = absent_at form.stream begun n e

  pub absent_before : (before begun n : ℕ) → before ≤ begun → absent_from form begun ≡ Some n → absent_from form before ≡ Some n
  absent_before before begun n le e = absent_less form.stream before begun n le e

  pub next_absent : (n : ℕ) (side : Side) → wanted_by form n ≡ Some side → absent_from form n ≡ Some n
  next_absent n side e = wanted_absent form.stream n side e
