-- Where the first line of a text ends.
use Rattle.std.proofs.Common.{◌≡◌, ℕ, suc, ◌+◌, ◌-◌, ◌==◌, ◌<◌, true, false, List, [], ◌∷◌, ◌++◌, length, take, drop, get_or, Some, None, refl, sym, ap, ◌∙◌}
use Rattle.std.proofs.Common.{arith, inl, inr}
use Rattle.std.proofs.lemmas.Bool.{cases_Bool, eqb-true}
use Rattle.std.proofs.lemmas.List.{get_or-take, length-take-le, length-drop, take-append-drop, take_all, drop_more}
use Rattle.memchr.specs.Find.{IsFirstByte, is_byte}
use Rattle.bt_text.specs.Script.{has_feed}
use Rattle.bt_text.specs.Splitting.{IsCut}

none_has : (t : List ℕ) → ((k : ℕ) → k < length t → (get_or t k 0 == 10) ≡ true → ⊥) → has_feed t ≡ false
none_has [] h = refl
none_has (c ∷ cs) h =
    elim (cases_Bool (c == 10)) [
      | inl e ↦ absurd (h 0 (omega arith) e)
      | inr e ↦ rw e (none_has cs (λ k lt. h (suc k) (omega arith)))
    ]

pub cut_none : (t : List ℕ) → IsFirstByte (is_byte 10) t None → IsCut t None
cut_none t h = none_has t (λ k lt. h k (omega arith) lt)

pub cut_some : (t : List ℕ) (i : ℕ) → IsFirstByte (is_byte 10) t (Some i)
    → IsCut t (Some (take i t, take (length t - (i + 1)) (drop (i + 1) t)))
cut_some t i h = (
  rw (take_all (length t - (i + 1)) (drop (i + 1) t) (omega (arith, length-drop (i + 1) t))) (sym (take-append-drop i t)
      ∙ ap (λ (l : List ℕ). take i t ++ l) (drop_more t i 0 h.0.high ∙ ap (λ (c : ℕ). c ∷ drop (i + 1) t) (eqb-true _ 10 h.1))),
  none_has (take i t) (λ k lt e.
      let inside : k < i = omega (arith, length-take-le i t (omega (arith, h.0.high))) in
      h.0.before k (omega arith) inside (rw (get_or-take i t k 0 inside) at e)),
)
