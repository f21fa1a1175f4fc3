-- Bytes with zeros up to a size.
use Rattle.std.proofs.Common.{◌≡◌, ℕ, ◌+◌, ◌-◌, ◌<◌, ◌≤◌, ◌⊎◌, inl, inr, List, ◌++◌, length, take, drop, replicate, sym, ap, ◌∙◌, arith, append_assoc, length-append}
use Rattle.std.proofs.Common.{length-drop, length-take-le}
use Rattle.std.proofs.Math.Seq.{drop-append-add}
use Rattle.std.proofs.lemmas.Bool.{cases_lt}
use Rattle.std.proofs.lemmas.List.{length-replicate, replicate-append-replicate, take-append-le, drop-append-le, drop_all, drop-replicate}
use Rattle.bt_metadata.specs.Arrivals.{padded}
use Rattle.bt_metadata.proofs.Slots.{paste}

pub length-padded : (size : ℕ) (d : List ℕ) → length d ≤ size → length (padded size d) ≡ size
length-padded size d h = omega (arith, length-append d (replicate (size - length d) 0), length-replicate {A = ℕ} (size - length d) 0)

zeros_joined : (d : List ℕ) (m n k : ℕ) → m + n ≡ k → (d ++ replicate m 0) ++ replicate n 0 ≡ d ++ replicate k 0
zeros_joined d m n k e =
    append_assoc d (replicate m 0) (replicate n 0) ∙ ap (λ x. d ++ x) (replicate-append-replicate m n 0 ∙ ap (λ j. replicate j 0) e)

-- zeros up to a place before the size make no difference
pub padded-longer : (size at : ℕ) (d : List ℕ) → length d ≤ size → at ≤ size → padded size (d ++ replicate (at - length d) 0) ≡ padded size d
padded-longer size at d h a =
    zeros_joined d (at - length d) (size - length (d ++ replicate (at - length d) 0)) (size - length d)
    (omega (arith, length-append d (replicate (at - length d) 0), length-replicate {A = ℕ} (at - length d) 0))

-- ---- a block is written

drop_by : (n : ℕ) (xs ys : List ℕ) → (n < length xs) ⊎ (length xs ≤ n) → drop n (xs ++ ys) ≡ drop n xs ++ drop (n - length xs) ys
drop_by n xs ys (inl h) =
    let z : 0 ≡ n - length xs = omega arith in
    drop-append-le n xs ys (omega arith) ∙ ap (λ k. drop n xs ++ drop k ys) z
drop_by n xs ys (inr h) =
    let e : n ≡ length xs + (n - length xs) = omega arith in
    ap (λ k. drop k (xs ++ ys)) e ∙ drop-append-add xs ys (n - length xs) ∙ ap (λ z. z ++ drop (n - length xs) ys) (sym (drop_all n xs h))

-- what passes the end takes the place of as much after it
paste-append : (d zs b : List ℕ) (at n : ℕ) → at ≤ length d → take at d ++ b ++ drop n d ++ drop (n - length d) zs ≡ take at (d ++ zs) ++ b ++ drop n (d ++ zs)
paste-append d zs b at n h =
    append_assoc (take at d ++ b) (drop n d) (drop (n - length d) zs) ∙ ap (λ x. take at d ++ b ++ x) (sym (drop_by n d zs (cases_lt n (length d))))
    ∙ ap (λ x. x ++ b ++ drop n (d ++ zs)) (sym (take-append-le at d zs h))

left_after : (size at : ℕ) (d b : List ℕ) → at ≤ length d → at + length b ≤ size → size - length (paste d at b)
    ≡ (size - length d) - (at + length b - length d)
left_after size at d b h f = omega (
  arith,
  length-append (take at d ++ b) (drop (at + length b) d),
  length-append (take at d) b,
  length-take-le at d h,
  length-drop (at + length b) d,
)

pub padded-paste : (size at : ℕ) (d b : List ℕ) → at ≤ length d → at + length b ≤ size → padded size (paste d at b) ≡ paste (padded size d) at b
padded-paste size at d b h f =
    ap (λ k. paste d at b ++ replicate k 0) (left_after size at d b h f)
    ∙ ap (λ x. paste d at b ++ x) (sym (drop-replicate (at + length b - length d) (size - length d) 0))
    ∙ paste-append d (replicate (size - length d) 0) b at (at + length b) h
