-- Bytes that a source put right after those that are held.
use Rattle.std.proofs.Common.{◌≡◌, ℕ, ◌+◌, ◌-◌, ◌≤◌, ◌<◌, false, min, List, [], ◌++◌, length, take, Result, Ok, Err, refl, sym, ap, subst, ◌∙◌, arith}
use Rattle.std.specs.Prelude.{IfOk, OnErr}
use Rattle.std.proofs.Math.Seq.{take-append-add}
use Rattle.std.proofs.lemmas.List.{append-nil, append_assoc, length-append, take-append-le, take-take, take_all}
use Rattle.bt_feed.specs.declared.progress.Progress.{Progress}
use Rattle.bt_feed.specs.Progress.{IsProgress}
use Rattle.bt_feed.proofs.Filled.{wanted_more, progress_window}

pub lent : (s n k : ℕ) (a into post tail : List ℕ) → length a ≡ s → n ≤ length into → s + n ≤ k → take (s + n) (take k ((a ++ (into ++ post)) ++ tail))
    ≡ a ++ take n into
lent s n k a into post tail e le h =
    let all = (a ++ (into ++ post)) ++ tail in
    let at : s + n ≡ length a + n = omega (arith, e) in
    take-take (s + n) k all h ∙ ap (λ (i : ℕ). take i all) at ∙ ap (take (length a + n)) (append_assoc a (into ++ post) tail)
    ∙ take-append-add a ((into ++ post) ++ tail) n
    ∙ ap (λ (x : List ℕ). a ++ x) (take-append-le n (into ++ post) tail (omega (arith, le, length-append into post)) ∙ take-append-le n into post le)

pub grown : {E : Type 0} (X : List ℕ → Type 0) (Y : Type 0) (r : Result ℕ E) (old new : List ℕ)
    → IfOk r (λ n. (bytes : List ℕ) × (length bytes ≡ n) × (new ≡ old ++ bytes) × X bytes) → OnErr r ((new ≡ old) × Y) → (bytes : List ℕ) × (new ≡ old ++ bytes)
grown X Y (Ok n) old new h e = (h.0, h.2)
grown X Y (Err x) old new h e = ([], e.0 ∙ sym (append-nil old))

-- within the message that is known
pub progress_read : (p : Progress) (old new bytes : List ℕ) → IsProgress p old → p.spent ≡ false → 0 < p.wanted → new ≡ old ++ bytes → length new ≤ p.wanted
    → IsProgress p new
progress_read p old new bytes h fresh some is le =
    let window = wanted_more p old bytes h fresh some in
    let few : length bytes ≡ min (p.wanted - length old) (length bytes) = omega (arith, le, ap (length {A = ℕ}) is, length-append old bytes) in
    let P : List ℕ → Type 0 = λ x. IsProgress p (old ++ x) in
    let Q : List ℕ → Type 0 = λ x. IsProgress p x in
    subst Q (sym is) (subst P (take_all (length bytes) bytes (omega arith)) (progress_window p bytes h
    (record { place = refl; refused = refl; fresh = fresh }) fresh refl window.0 window.1 few))
