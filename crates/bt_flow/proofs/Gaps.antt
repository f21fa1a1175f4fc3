-- Gaps of two ways to say what is covered.
use Rattle.std.proofs.Common.{◌≡◌, ℕ, zero, suc, ◌+◌, ◌-◌, ◌≤◌, Bool, true, false, refl, sym, ap, ◌∙◌, arith, inl, inr}
use Rattle.std.specs.Prelude.{Option, Some, None, not, if◌then◌else◌, nat_lt}
use Rattle.std.proofs.lemmas.Grind.{common_steps}
use Rattle.std.proofs.lemmas.Bool.{cases_lt}
use Rattle.bt_tcp.specs.declared.covered.Gap.{Gap}
use Rattle.bt_tcp.specs.declared.covered.Gaps.{Gaps}
use Rattle.bt_tcp.specs.Covered.{count_places, begins_gap, is_missing, IsFirst, AreGaps}

count_alike : (f g : ℕ → Bool) (i n : ℕ) → ((k : ℕ) → i ≤ k → f k ≡ g k) → count_places f i n ≡ count_places g i n
count_alike f g i zero e = refl
count_alike f g i (suc n) e =
    let here : i ≤ i = omega arith in
    ap (λ b. (if b then 1 else 0) + count_places f (i + 1) n) (e i here)
    ∙ ap (λ x. (if g i then 1 else 0) + x) (count_alike f g (i + 1) n (λ k h. e k (omega (arith, h))))

begins_alike : (p q : ℕ → Bool) (next i : ℕ) → ((k : ℕ) → next ≤ k → p k ≡ q k) → next ≤ i → begins_gap p next i ≡ begins_gap q next i
begins_alike p q next i e h =
    let step : (if nat_lt next i then p (i - 1) else true) ≡ (if nat_lt next i then q (i - 1) else true) = elim (cases_lt next i) [
      | inl l ↦ (let m : next ≤ i - 1 = omega (arith, l) in ap (λ b. if nat_lt next i then b else true) (e (i - 1) m))
      | inr l ↦ grind (arith, common_steps)
    ] in
    ap (λ b. if b then false else if nat_lt next i then p (i - 1) else true) (e i h) ∙ ap (λ x. if q i then false else x) step

first_alike : (p q : ℕ → Bool) (next «end» : ℕ) (o : Option Gap) → ((k : ℕ) → next ≤ k → p k ≡ q k) → IsFirst p next «end» o → IsFirst q next «end» o
first_alike p q next «end» None e f = λ i a b. sym (e i a) ∙ f i a b
first_alike p q next «end» (Some gap) e f = record {
  after = f.after;
  within = f.within;
  some = f.some;
  before = λ i a b. sym (e i a) ∙ f.before i a b;
  missing = λ i a b. sym (e i (omega (arith, a, f.after))) ∙ f.missing i a b;
  ends = λ a. sym (e (gap.place + gap.length) (omega (arith, f.after))) ∙ f.ends a;
}

pub gaps_alike : (p q : ℕ → Bool) (next «end» : ℕ) (gaps : Gaps) → ((k : ℕ) → next ≤ k → p k ≡ q k) → AreGaps p next «end» gaps → AreGaps q next «end» gaps
gaps_alike p q next «end» gaps e g = record {
  first = first_alike p q next «end» gaps.first e g.first;
  count = g.count ∙ count_alike (begins_gap p next) (begins_gap q next) next («end» - next) (λ k h. begins_alike p q next k e h);
  sum = g.sum ∙ count_alike (is_missing p) (is_missing q) next («end» - next) (λ k h. ap not (e k h));
}
