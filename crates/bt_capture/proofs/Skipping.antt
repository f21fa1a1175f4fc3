-- How many packets aren't TCP, after one packet more.
use Rattle.std.proofs.Common.{◌≡◌, ◌∙◌, ℕ, ◌+◌, ◌-◌, ◌^◌, min, Bool, true, false, if◌then◌else◌, List, [], ◌∷◌, ◌++◌, length, length-append}
use Rattle.std.proofs.Common.{refl, ap, arith, inl, inr}
use Rattle.std.specs.List.{filter}
use Rattle.std.proofs.lemmas.Bool.{cases_Bool}
use Rattle.std.proofs.lemmas.List.Elements.{filter-append}
use Rattle.bt_io.specs.Counts.{counted}
use Rattle.bt_pcap.specs.Formats.{Captured}
use Rattle.bt_capture.specs.Arrivals.{count_skipped, is_skipped}

one : (test : Captured → Bool) (p : Captured) → length (filter test (p ∷ [])) ≡ (if test p then 1 else 0)
one test p = elim (cases_Bool (test p)) [ inl e ↦ rw e refl | inr e ↦ rw e refl ]

more : (b : Bool) (n : ℕ) → min (n + (if b then 1 else 0)) (2 ^ 64 - 1) ≡ counted b (min n (2 ^ 64 - 1))
more true n = omega arith
more false n = omega arith

pub skipped_more : (packets : List Captured) (p : Captured) → count_skipped (packets ++ p ∷ []) ≡ counted (is_skipped p) (count_skipped packets)
skipped_more packets p =
    let n = length (filter is_skipped packets) in
    let e : length (filter is_skipped (packets ++ p ∷ [])) ≡ n + (if is_skipped p then 1 else 0) =
    ap length (filter-append is_skipped packets (p ∷ [])) ∙ length-append (filter is_skipped packets) (filter is_skipped (p ∷ []))
    ∙ ap (λ (k : ℕ). n + k) (one is_skipped p) in
    ap (λ (k : ℕ). min k (2 ^ 64 - 1)) e ∙ more (is_skipped p) n
