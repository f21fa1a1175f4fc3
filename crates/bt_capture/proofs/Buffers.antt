-- Bytes in a buffer's memory.
use Rattle.std.proofs.Common.{◌≡◌, ℕ, ◌+◌, ◌≤◌, List, ◌++◌, length, take, replicate, Result, Ok, Err, sym, ap, ◌∙◌, arith, cond}
use Rattle.std.specs.Prelude.{is_ok}
use Rattle.std.proofs.Math.Seq.{take-append-add}
use Rattle.std.proofs.lemmas.List.{append_assoc, length-append, length-take, take-append-le, take-take}

-- a longer memory begins with the same bytes
pub longer : {A E : Type 0} (r : Result A E) (n size k : ℕ) (old new : List ℕ) → new ≡ cond (is_ok r) (take n old ++ replicate k 0) old → size ≤ n
    → size ≤ length old → take size new ≡ take size old
longer (Ok a) n size k old new is le within =
    let long : size ≤ length (take n old) = omega (arith, length-take n old) in
    ap (take size) is ∙ take-append-le size (take n old) (replicate k 0) long ∙ take-take size n old le
longer (Err e) n size k old new is le within = ap (take size) is

-- n bytes come right after those that are there
pub read_after : (size n k : ℕ) (old into post tail : List ℕ) → length old ≡ size → n ≤ length into → size + n ≤ k
    → take (size + n) (take k ((old ++ (into ++ post)) ++ tail)) ≡ old ++ take n into
read_after size n k old into post tail e le within =
    let all = (old ++ (into ++ post)) ++ tail in
    take-take (size + n) k all within ∙ ap (λ (i : ℕ). take (i + n) all) (sym e) ∙ ap (take (length old + n)) (append_assoc old (into ++ post) tail)
    ∙ take-append-add old ((into ++ post) ++ tail) n
    ∙ ap (λ (x : List ℕ). old ++ x) (take-append-le n (into ++ post) tail (omega (arith, le, length-append into post)) ∙ take-append-le n into post le)
