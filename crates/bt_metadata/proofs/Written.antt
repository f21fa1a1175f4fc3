-- Which blocks are in memory.
use Rattle.std.proofs.Common.{◌≡◌, ℕ, zero, suc, ◌+◌, ◌-◌, ◌*◌, ◌<◌, ◌≤◌, ◌⊎◌, inl, inr, true, false, List, [], ◌∷◌, length, set, map, replicate, slice_get, min}
use Rattle.std.proofs.Common.{refl, sym, ap, subst, arith}
use Rattle.std.specs.List.{list_all}
use Rattle.bt_ext.specs.Metadata.{block_count}
use Rattle.bt_metadata.specs.Blocks.{block_size}
use Rattle.bt_metadata.specs.declared.assembly.Status.{Status}
use Rattle.bt_metadata.specs.declared.assembly.Status.TheVariants as status
use Rattle.bt_metadata.specs.Sound.{holds, holds_at, settles, settles_at, kept_status, AreWritten}

-- ---- which blocks are held or rejected

none_settled : (n k : ℕ) → settles_at (slice_get (replicate n status.Lacking) k) ≡ true → ⊥
none_settled zero k h = cc
none_settled (suc n) zero h = cc
none_settled (suc n) (suc k) h = none_settled n k h

settled_before : (ss : List Status) (k : ℕ) → settles_at (slice_get (map kept_status ss) k) ≡ true → settles_at (slice_get ss k) ≡ true
settled_before [] k h = absurd cc
settled_before (status.Held ∷ ss) zero h = refl
settled_before (status.Lacking ∷ ss) zero h = absurd cc
settled_before (status.Asked ∷ ss) zero h = absurd cc
settled_before (status.Rejected ∷ ss) zero h = absurd cc
settled_before (s ∷ ss) (suc k) h = settled_before ss k h

further : {j k : ℕ} {P Q : Type 0} → ((j ≡ k) × P) ⊎ Q → ((suc j ≡ suc k) × P) ⊎ Q
further (inl p) = inl (ap suc p.0, p.1)
further (inr q) = inr q

-- the one that is set, or another one
settled_where : (ss : List Status) (k j : ℕ) (y : Status) → settles_at (slice_get (set ss k y) j) ≡ true
    → ((j ≡ k) × (settles y ≡ true)) ⊎ (settles_at (slice_get ss j) ≡ true)
settled_where [] k j y h = absurd cc
settled_where (s ∷ ss) zero zero y h = inl (refl, h)
settled_where (s ∷ ss) zero (suc j) y h = inr h
settled_where (s ∷ ss) (suc k) zero y h = inr h
settled_where (s ∷ ss) (suc k) (suc j) y h = further (settled_where ss k j y h)

each_settled : (ss : List Status) (k : ℕ) → list_all holds ss ≡ true → k < length ss → settles_at (slice_get ss k) ≡ true
each_settled [] k a h = absurd (omega arith)
each_settled (status.Held ∷ ss) zero a h = refl
each_settled (status.Held ∷ ss) (suc k) a h = each_settled ss k a (omega arith)
each_settled (status.Lacking ∷ ss) k a h = absurd cc
each_settled (status.Asked ∷ ss) k a h = absurd cc
each_settled (status.Rejected ∷ ss) k a h = absurd cc

-- what is held is settled
pub held-settled : (ss : List Status) (k : ℕ) → holds_at (slice_get ss k) ≡ true → settles_at (slice_get ss k) ≡ true
held-settled [] k h = absurd cc
held-settled (status.Held ∷ ss) zero h = refl
held-settled (status.Lacking ∷ ss) zero h = absurd cc
held-settled (status.Asked ∷ ss) zero h = absurd cc
held-settled (status.Rejected ∷ ss) zero h = absurd cc
held-settled (s ∷ ss) (suc k) h = held-settled ss k h

-- ---- and so in memory

pub written-lacking : (m size n : ℕ) → AreWritten (replicate m status.Lacking) size n
written-lacking m size n = λ k h. absurd (none_settled m k h)

pub written-kept : (ss : List Status) (size n : ℕ) → AreWritten ss size n → AreWritten (map kept_status ss) size n
written-kept ss size n w = λ k h. w k (settled_before ss k h)

other : {P : Type 0} (y : Status) (j k : ℕ) → settles y ≡ false → ((j ≡ k) × (settles y ≡ true)) ⊎ P → P
other y j k n (inl p) = absurd cc
other y j k n (inr q) = q

-- a block that is neither held nor rejected needs no memory
pub written-set : (ss : List Status) (k size n : ℕ) (y : Status) → settles y ≡ false → AreWritten ss size n → AreWritten (set ss k y) size n
written-set ss k size n y e w = λ j h. w j (other y j k e (settled_where ss k j y h))

either : {P : Type 0} (ss : List Status) (k j size n m : ℕ) → AreWritten ss size n → n ≤ m → min (block_size * k + block_size) size ≤ m
    → ((j ≡ k) × P) ⊎ (settles_at (slice_get ss j) ≡ true) → min (block_size * j + block_size) size ≤ m
either ss k j size n m w l e (inl p) = subst (λ i. min (block_size * i + block_size) size ≤ m) (sym p.0) e
either ss k j size n m w l e (inr q) = let i : min (block_size * j + block_size) size ≤ n = w j q in omega arith

-- one that came or was rejected is written
pub written-settled : (ss : List Status) (k size n m : ℕ) (y : Status) → AreWritten ss size n → n ≤ m → min (block_size * k + block_size) size ≤ m
    → AreWritten (set ss k y) size m
written-settled ss k size n m y w l e = λ j h. either ss k j size n m w l e (settled_where ss k j y h)

-- all are held, so that all is written
pub written-all : (ss : List Status) (size n : ℕ) → list_all holds ss ≡ true → length ss ≡ block_count size → 0 < size → AreWritten ss size n → size ≤ n
written-all ss size n a c l w =
    let i : min (block_size * (length ss - 1) + block_size) size ≤ n = w (length ss - 1) (each_settled ss (length ss - 1) a (omega (arith, c))) in
    omega (arith, c)
