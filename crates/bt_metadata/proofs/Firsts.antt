-- Which block is the first that is lacking.
use Rattle.std.proofs.Common.{◌≡◌, ℕ, zero, suc, ◌+◌, ◌<◌, ◌≤◌, ◌⊎◌, inl, inr, not, ltb, cond, List, [], ◌∷◌, length, drop, set, position, Some, None}
use Rattle.std.proofs.Common.{option_map, get_or, Bool, true, false, refl, ap, ◌∙◌, arith, length-drop}
use Rattle.std.specs.List.{position_or_len}
use Rattle.std.proofs.lemmas.Bool.{cases_lt, lt-ltb, le-ltb, ltb-true, ltb-false}
use Rattle.std.proofs.lemmas.List.Quantifiers.{position-Some}
use Rattle.std.proofs.lemmas.List.Sums.{prefix_len-le-length}
use Rattle.bt_metadata.specs.declared.assembly.Status.{Status}
use Rattle.bt_metadata.specs.declared.assembly.Status.TheVariants as status
use Rattle.bt_metadata.specs.Sound.{lacks}

pub first-le-length : (ss : List Status) → position_or_len lacks ss ≤ length ss
first-le-length ss = prefix_len-le-length (λ s. not (lacks s)) ss

-- ---- those before it are passed over

first-drop : (ss : List Status) (n : ℕ) → n ≤ position_or_len lacks ss → position_or_len lacks ss ≡ n + position_or_len lacks (drop n ss)
first-drop ss zero h = omega arith
first-drop [] (suc n) h = absurd (omega arith)
first-drop (status.Lacking ∷ ss) (suc n) h = absurd (omega arith)
first-drop (status.Asked ∷ ss) (suc n) h = omega (arith, first-drop ss n (omega arith))
first-drop (status.Rejected ∷ ss) (suc n) h = omega (arith, first-drop ss n (omega arith))
first-drop (status.Held ∷ ss) (suc n) h = omega (arith, first-drop ss n (omega arith))

further : (n a l : ℕ) → (a < l) ⊎ (l ≤ a) → cond (ltb (n + a) (n + l)) (Some (n + a)) None ≡ option_map (λ k. n + k) (cond (ltb a l) (Some a) None)
further n a l (inl h) = rw (lt-ltb a l h, lt-ltb (n + a) (n + l) (omega arith)) refl
further n a l (inr h) = rw (le-ltb a l h, le-ltb (n + a) (n + l) (omega arith)) refl

pub position-drop : (ss : List Status) (n : ℕ) → n ≤ position_or_len lacks ss → position lacks ss ≡ option_map (λ k. n + k) (position lacks (drop n ss))
position-drop ss n h =
    let a : position_or_len lacks ss ≡ n + position_or_len lacks (drop n ss) = first-drop ss n h in
    let l : length ss ≡ n + length (drop n ss) = omega (arith, length-drop n ss, first-le-length ss) in
    ap (λ k. cond (ltb k (length ss)) (Some k) None) a
    ∙ ap (λ k. cond (ltb (n + position_or_len lacks (drop n ss)) k) (Some (n + position_or_len lacks (drop n ss))) None) l
    ∙ further n (position_or_len lacks (drop n ss)) (length (drop n ss)) (cases_lt (position_or_len lacks (drop n ss)) (length (drop n ss)))

-- ---- one is set

lacks_is : (s : Status) → lacks s ≡ true → s ≡ status.Lacking
lacks_is status.Lacking h = refl
lacks_is status.Asked h = absurd cc
lacks_is status.Rejected h = absurd cc
lacks_is status.Held h = absurd cc

-- what isn't lacking moves it on, or not at all
pub first-set : (ss : List Status) (k : ℕ) (y : Status) → lacks y ≡ false → position_or_len lacks ss ≤ position_or_len lacks (set ss k y)
first-set [] k y h = omega arith
first-set (s ∷ ss) zero status.Lacking h = absurd cc
first-set (status.Lacking ∷ ss) zero y h = omega arith
first-set (s ∷ ss) zero status.Asked h = omega arith
first-set (s ∷ ss) zero status.Rejected h = omega arith
first-set (s ∷ ss) zero status.Held h = omega arith
first-set (status.Lacking ∷ ss) (suc k) y h = omega arith
first-set (status.Asked ∷ ss) (suc k) y h = omega (arith, first-set ss k y h)
first-set (status.Rejected ∷ ss) (suc k) y h = omega (arith, first-set ss k y h)
first-set (status.Held ∷ ss) (suc k) y h = omega (arith, first-set ss k y h)

-- the first one is asked, and the next is a later one
past_first : (ss : List Status) (k : ℕ) → position_or_len lacks ss ≡ k → k < length ss → k + 1 ≤ position_or_len lacks (set ss k status.Asked)
past_first [] k e h = absurd (omega arith)
past_first (status.Lacking ∷ ss) zero e h = omega arith
past_first (status.Lacking ∷ ss) (suc k) e h = absurd (omega arith)
past_first (status.Asked ∷ ss) zero e h = absurd (omega arith)
past_first (status.Asked ∷ ss) (suc k) e h = omega (arith, past_first ss k (omega arith) (omega arith))
past_first (status.Rejected ∷ ss) zero e h = absurd (omega arith)
past_first (status.Rejected ∷ ss) (suc k) e h = omega (arith, past_first ss k (omega arith) (omega arith))
past_first (status.Held ∷ ss) zero e h = absurd (omega arith)
past_first (status.Held ∷ ss) (suc k) e h = omega (arith, past_first ss k (omega arith) (omega arith))

found_at : (a l k : ℕ) (b : Bool) → ltb a l ≡ b → cond b (Some a) None ≡ Some k → (a ≡ k) × (a < l)
found_at a l k true t e = (cc, ltb-true a l t)
found_at a l k false t e = absurd cc

found_none : (a l : ℕ) (b : Bool) → ltb a l ≡ b → cond b (Some a) None ≡ None → l ≤ a
found_none a l true t e = absurd cc
found_none a l false t e = ltb-false a l t

pub position-found : (ss : List Status) (k : ℕ) → position lacks ss ≡ Some k → (position_or_len lacks ss ≡ k) × (k < length ss)
position-found ss k e =
    let f = found_at (position_or_len lacks ss) (length ss) k (ltb (position_or_len lacks ss) (length ss)) refl e in (f.0, omega (arith, f.0, f.1))

pub position-none : (ss : List Status) → position lacks ss ≡ None → length ss ≤ position_or_len lacks ss
position-none ss e = found_none (position_or_len lacks ss) (length ss) (ltb (position_or_len lacks ss) (length ss)) refl e

pub first-ask : (ss : List Status) (k : ℕ) → position lacks ss ≡ Some k → k + 1 ≤ position_or_len lacks (set ss k status.Asked)
first-ask ss k e = let f = position-found ss k e in past_first ss k f.0 f.1

-- a lacking one stands there
pub lacking_there : (ss : List Status) (k : ℕ) → position lacks ss ≡ Some k → get_or ss k status.Lacking ≡ status.Lacking
lacking_there ss k e = lacks_is (get_or ss k status.Lacking) (position-Some lacks ss k status.Lacking e).1
