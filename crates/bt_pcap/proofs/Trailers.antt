-- The length after the body of a block.
use Rattle.std.proofs.Common.{◌≡◌, ◌≢◌, ℕ, ◌+◌, ◌-◌, ◌≤◌, Bool, true, false, not, ◌&&◌, eqb, leb, min, List, ◌++◌, length, take, drop, sym, ap}
use Rattle.std.proofs.Common.{subst, ◌∙◌, arith, inl, inr}
use Rattle.std.proofs.Math.Seq.{drop-append_seam}
use Rattle.std.proofs.lemmas.Bool.{cases_lt}
use Rattle.std.proofs.lemmas.Bool.Decides.{nat_tests}
use Rattle.std.proofs.lemmas.List.{length-drop, take_all, drop-drop, take-append-le, drop-append-le}
use Rattle.bt_pcap.specs.declared.numbers.Order.{Order}
use Rattle.bt_pcap.specs.Numbers.{u32, number32, AreBytes}
use Rattle.bt_pcap.specs.Faults.{IsUnlike, IsAlike}
use Rattle.bt_pcap.specs.Reading.{differs}
use Rattle.bt_pcap.proofs.NumberLaws.{AreBytes-drop, number32-take, front32, drop-front}

differs_by : (n k : ℕ) → Bool
differs_by n k = leb n 1048604 && not (eqb k n)

by_alike : (n k : ℕ) → (n ≤ 1048604 → k ≡ n) → differs_by n k ≡ false
unfolding differs_by
by_alike n k h =
    elim (cases_lt 1048604 n) [
      | inl lt ↦ grind (arith, nat_tests)
      | inr le ↦ let e : k ≡ n = h le in grind (arith, nat_tests)
    ]

by_unlike : (n k : ℕ) → n ≤ 1048604 → k ≢ n → differs_by n k ≡ true
unfolding differs_by
by_unlike n k le h = grind (arith, nat_tests)

by_false : (n k : ℕ) → differs_by n k ≡ false → n ≤ 1048604 → k ≡ n
unfolding differs_by
by_false n k e le = grind (arith, nat_tests)

by_true : (n k : ℕ) → differs_by n k ≡ true → (n ≤ 1048604) × (k ≢ n)
unfolding differs_by
by_true n k e = (grind (arith, nat_tests), λ h. grind (arith, nat_tests))

pub alike : (order : Order) (n : ℕ) (b : List ℕ) → IsAlike order n b → differs order n b ≡ false
unfolding differs_by
alike order n b h = by_alike n (number32 order (drop (n - 4) b)) h

pub unlike : (order : Order) (n : ℕ) (b : List ℕ) → IsUnlike order n b → differs order n b ≡ true
unfolding differs_by
unlike order n b h = by_unlike n (number32 order (drop (n - 4) b)) h.within h.unlike

pub alike_is : (order : Order) (n : ℕ) (b : List ℕ) → differs order n b ≡ false → IsAlike order n b
unfolding differs_by
alike_is order n b e le = by_false n (number32 order (drop (n - 4) b)) e le

pub unlike_is : (order : Order) (n : ℕ) (b : List ℕ) → differs order n b ≡ true → min n 1048604 ≤ length b → IsUnlike order n b
unfolding differs_by
unlike_is order n b e enough =
    let t = by_true n (number32 order (drop (n - 4) b)) e in
    let le : n ≤ 1048604 = t.0 in
    record { within = le; enough = omega (arith, enough, le); unlike = t.1 }

-- ---- the same front

last_word : (order : Order) (n : ℕ) (a : List ℕ) → 4 ≤ n → number32 order (drop (n - 4) (take n a)) ≡ number32 order (drop (n - 4) a)
last_word order n a le =
    ap (number32 order) (drop-front (n - 4) n a (omega arith)) ∙ number32-take order (n - (n - 4)) (drop (n - 4) a) (omega arith)

pub differs_same : (order : Order) (n : ℕ) (a b : List ℕ) → take (min n 1048604) a ≡ take (min n 1048604) b → 4 ≤ n → differs order n a ≡ false
    → differs order n b ≡ false
differs_same order n a b same le e =
    alike order n b (λ within.
    let whole : min n 1048604 ≡ n = omega (arith, within) in
    let fronts : take n a ≡ take n b = subst (λ (k : ℕ). take k a ≡ take k b) whole same in
    sym (last_word order n b le) ∙ (ap (λ (x : List ℕ). number32 order (drop (n - 4) x)) (sym fronts) ∙ (last_word order n a le
    ∙ alike_is order n a e within)))

-- ---- as it is written

pub trailer_at : (w body trailer : List ℕ) (total : ℕ) → drop 4 (drop 4 w) ≡ body ++ trailer → total ≡ 12 + length body → drop (total - 4) w ≡ trailer
trailer_at w body trailer total e size =
    let twice : drop 4 (drop 4 w) ≡ drop 8 w = drop-drop 4 4 w in
    let k : total - 4 ≡ 8 + length body = omega (arith, size) in
    ap (λ (x : ℕ). drop x w) k ∙ (sym (drop-drop (length body) 8 w) ∙ (ap (drop (length body)) (sym twice ∙ e) ∙ drop-append_seam body trailer))

pub trailer_is : (order : Order) (w trailer : List ℕ) (n : ℕ) → drop (n - 4) w ≡ trailer → length trailer ≡ 4 → AreBytes w → differs order n w ≡ false
    → n ≤ 1048604 → trailer ≡ u32 order n
trailer_is order w trailer n e four bytes same le =
    let number : number32 order trailer ≡ n = sym (ap (number32 order) e) ∙ alike_is order n w same le in
    let whole : u32 order (number32 order trailer) ≡ trailer =
    front32 order trailer (omega (arith, four)) (subst AreBytes e (AreBytes-drop (n - 4) w bytes)) ∙ take_all 4 trailer (omega (arith, four)) in
    sym whole ∙ ap (u32 order) number

-- ---- more bytes

pub more_bytes : (order : Order) (n : ℕ) (b more : List ℕ) → 4 ≤ n → n ≤ length b
    → number32 order (drop (n - 4) (b ++ more)) ≡ number32 order (drop (n - 4) b)
more_bytes order n b more le enough =
    let x = drop (n - 4) b in
    let four : 4 ≤ length x = omega (arith, length-drop (n - 4) b) in
    ap (number32 order) (drop-append-le (n - 4) b more (omega arith)) ∙ (sym (number32-take order 4 (x ++ more) (omega arith))
    ∙ (ap (number32 order) (take-append-le 4 x more four) ∙ number32-take order 4 x (omega arith)))
