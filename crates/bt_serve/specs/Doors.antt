-- How many connections are inside a door, and what it was told of them.
use Rattle.std.specs.Prelude.{◌≡◌, ◌⊎◌, ℕ, ◌+◌, ◌-◌, ◌^◌, ◌<◌, ◌≤◌, ⊤, Bool, true, false, List, [], ◌∷◌, ◌++◌, length, Option, Some, None}
use Rattle.bt_exchange.specs.Lists.{AreAdded}
use Rattle.bt_serve.specs.declared.door.Parting.{Parting}
use Rattle.bt_serve.specs.declared.guest.Ending.{Ending}
use Rattle.bt_serve.specs.declared.guest.Ending.TheVariants as ending

-- how many connections entered at a call
abbrev pub entering : {C : Type 0} → Option C → ℕ
entering None = 0
entering (Some c) = 1

-- how many connections leave at a turn, which returns nothing of one that ended
abbrev pub leaving : {C : Type 0} → Option C → ℕ
leaving None = 1
leaving (Some c) = 0

-- there was memory for its buffers
abbrev pub is_served : Ending → Bool
is_served ending.Unserved = false
is_served e = true

abbrev pub was_served : {N : Type 0} → N × Parting → Bool
was_served x = is_served x.1.ending

-- After the ones before, the ends of some connections were told: of each there was memory for its buffers, if and only if `all`.
abbrev pub AreTold : {N : Type 0} → Option (List (N × Parting)) → Option (List (N × Parting)) → (all : Bool) → Type 0
AreTold {N} old new all = AreAdded (was_served {N = N}) old new all

-- whether there was memory for the last of these connections, and `none` if there is none
abbrev pub last_served_or : {N : Type 0} → (none : Bool) → List (N × Parting) → Bool
last_served_or none [] = none
last_served_or none (x ∷ xs) = last_served_or (was_served x) xs

abbrev pub last_was_served : {N : Type 0} → List (N × Parting) → Bool
last_was_served ends = last_served_or true ends

-- After the ones before, the ends of some connections were told. If `served`, there was memory for the last of them, or none was told: so after
-- each for which there was none comes another for which there was. Else there was no memory for the last.
abbrev pub AreToldOf : {N : Type 0} → Option (List (N × Parting)) → Option (List (N × Parting)) → (served : Bool) → Type 0
AreToldOf None new served = ⊤
AreToldOf (Some xs) None served = ⊥
AreToldOf {N} (Some xs) (Some ys) served = (added : List (N × Parting)) × (ys ≡ xs ++ added) × (last_was_served added ≡ served)

-- After the ones before, the ends of this many connections were told; or nothing is known.
abbrev pub AreMore : {N : Type 0} → ℕ → Option (List (N × Parting)) → Option (List (N × Parting)) → Type 0
AreMore n None new = ⊤
AreMore n (Some xs) None = ⊥
AreMore n (Some xs) (Some ys) = length ys ≡ length xs + n

-- ---- as many connections as are asked for: a number, or connections without end

-- as many rounds were made as a number of 64 bits counts
abbrev pub IsEndless : ℕ → Type 0
IsEndless rounds = 2 ^ 64 - 1 ≤ rounds

-- as many ended as are asked for
abbrev pub AreEnough : {N : Type 0} → Option ℕ → Option (List (N × Parting)) → Option (List (N × Parting)) → (rounds : ℕ) → Type 0
AreEnough None old new rounds = IsEndless rounds
AreEnough (Some asked) old new rounds = AreMore asked old new ⊎ IsEndless rounds

abbrev pub IsWithin : Option ℕ → ℕ → Type 0
IsWithin None n = ⊤
IsWithin (Some asked) n = n ≤ asked

-- No more entered than are asked for: those whose end was told, and those who are still inside.
abbrev pub AreWithin : {N : Type 0} → Option ℕ → Option (List (N × Parting)) → Option (List (N × Parting)) → (inside : ℕ) → Type 0
AreWithin asked old new inside = (n : ℕ) × AreMore n old new × IsWithin asked (n + inside)

-- for a private contract: the same, before the ends of those who are still inside are told
abbrev pub AreServed : {N : Type 0} → Option ℕ → (inside : ℕ) → Option (List (N × Parting)) → Option (List (N × Parting)) → (rounds : ℕ) → Type 0
AreServed None inside old new rounds = IsEndless rounds
AreServed (Some asked) inside old new rounds = (AreMore asked old new × (inside ≡ 0)) ⊎ IsEndless rounds

-- for a private contract: whether there was memory for the last one, of those who are inside too
abbrev pub IsLast : (inside : ℕ) → (served last : Bool) → Type 0
IsLast inside true last = (last ≡ true) ⊎ (0 < inside)
IsLast inside false last = (last ≡ false) × (inside ≡ 0)

-- for a private contract: as AreToldOf, before the ends of those who are still inside are told
abbrev pub AreToldUpTo : {N : Type 0} → (inside : ℕ) → Option (List (N × Parting)) → Option (List (N × Parting)) → (served : Bool) → Type 0
AreToldUpTo inside None new served = ⊤
AreToldUpTo inside (Some xs) None served = ⊥
AreToldUpTo {N} inside (Some xs) (Some ys) served =
    (added : List (N × Parting)) × (ys ≡ xs ++ added) × IsLast inside served (last_was_served added)

-- for a private contract: of those who came none is gone, or one for whom there was no memory while others are inside
abbrev pub AreAdmitted : {N : Type 0} → (gone inside : ℕ) → Option (List (N × Parting)) → Option (List (N × Parting)) → Type 0
AreAdmitted gone inside old new = ((gone ≡ 0) × (new ≡ old)) ⊎ ((gone ≡ 1) × (0 < inside) × AreToldOf old new false)
