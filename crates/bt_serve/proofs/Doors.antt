-- How many ends a door was told of, at one call after another.
use Rattle.std.proofs.Common.{◌≡◌, ℕ, ◌+◌, ◌<◌, ◌≤◌, ◌-◌, ◌^◌, Bool, true, false, if◌then◌else◌, List, [], ◌∷◌, ◌++◌, length, Option, Some, None, unwrap_or, refl, sym, ap, subst, ◌∙◌, arith, add_assoc, length-append, inl, inr}
use Rattle.bt_exchange.specs.Lists.{IsAdded}
use Rattle.bt_serve.specs.Doors.{AreMore, AreEnough, AreServed, AreWithin, IsEndless, IsWithin}
use Rattle.bt_serve.specs.declared.door.Parting.{Parting}

pub more_none : {N : Type 0} → (o : Option (List (N × Parting))) → AreMore 0 o o
more_none None = tt
more_none (Some xs) = omega arith

pub more_same : {N : Type 0} → (a b : Option (List (N × Parting))) → b ≡ a → AreMore 0 a b
more_same a b e = subst (λ x. AreMore 0 a x) (sym e) (more_none a)

pub more_one : {N : Type 0} → (a b : Option (List (N × Parting))) (x : N × Parting) → IsAdded a b x → AreMore 1 a b
more_one None b x h = tt
more_one (Some xs) None x h = absurd h
more_one {N} (Some xs) (Some ys) x h = ap (λ (l : List (N × Parting)). length l) h ∙ length-append xs (x ∷ [])

-- nobody was told of at first, and then of one
pub more_after : {N : Type 0} → (a b c : Option (List (N × Parting))) (x : N × Parting) → b ≡ a → IsAdded b c x → AreMore 1 a c
more_after a b c x e h = subst (λ y. AreMore 1 y c) e (more_one b c x h)

pub more_both : {N : Type 0} → (m n k : ℕ) (a b c : Option (List (N × Parting))) → k ≡ m + n → AreMore m a b → AreMore n b c → AreMore k a c
more_both m n k None b c e h i = tt
more_both m n k (Some xs) None c e h i = absurd h
more_both m n k (Some xs) (Some ys) None e h i = absurd i
more_both m n k (Some xs) (Some ys) (Some zs) e h i = omega arith

-- the ends of those who are still inside are told then
pub within_all : {N : Type 0} → (asked : Option ℕ) (inside : ℕ) (a b c : Option (List (N × Parting))) → AreWithin asked a b inside
    → AreMore inside b c → AreWithin asked a c 0
within_all None inside a b c h i = (h.0 + inside, more_both h.0 inside (h.0 + inside) a b c refl h.1 i, tt)
within_all (Some m) inside a b c h i = let p = h.2 in
    (h.0 + inside, more_both h.0 inside (h.0 + inside) a b c refl h.1 i, omega arith)

pub enough_all : {N : Type 0} → (asked : Option ℕ) (inside rounds rounds' : ℕ) (a b c : Option (List (N × Parting))) → rounds' ≡ rounds
    → AreServed asked inside a b rounds → AreMore inside b c → AreEnough asked a c rounds'
enough_all None inside rounds rounds' a b c e h i = omega arith
enough_all (Some m) inside rounds rounds' a b c e h i = elim h [
  | inl p ↦ let q = p.1 in inl (more_both m inside m a b c (omega arith) p.0 i)
  | inr p ↦ inr (omega arith)
]

-- after one call and another, and a third that tells of nobody
pub more_twice : {N : Type 0} → (m n l k : ℕ) (a b c d d' : Option (List (N × Parting))) → k ≡ m + (n + l) → AreMore m a b → AreMore n b c
    → AreMore l c d → d' ≡ d → AreMore k a d'
more_twice m n l k a b c d d' e h i j q =
    subst (λ x. AreMore k a x) (sym q) (more_both m (n + l) k a b d e h (more_both n l (n + l) b c d refl i j))

-- nobody was told of at first, and then of n more
pub more_on : {N : Type 0} → (m n k : ℕ) (a b b' c c' : Option (List (N × Parting))) → k ≡ m + n → AreMore m a b → b' ≡ b → AreMore n b' c → c' ≡ c
    → AreMore k a c'
more_on m n k a b b' c c' e h p i q =
    let j = subst (λ x. AreMore n x c) p i in
    subst (λ x. AreMore k a x) (sym q) (more_both m n k a b c e h j)

pub within_less : (asked : Option ℕ) (m n : ℕ) → m ≤ n → IsWithin asked n → IsWithin asked m
within_less None m n e h = tt
within_less (Some k) m n e h = omega arith

-- the next one entered, or none
pub within_next : (asked : Option ℕ) (n k came : ℕ) (may : Bool) → k ≡ n + came → came ≤ (if may then 1 else 0)
    → (may ≡ true → IsWithin asked (n + 1)) → IsWithin asked n → IsWithin asked k
within_next asked n k came true e h i j = within_less asked k (n + 1) (omega arith) (i refl)
within_next asked n k came false e h i j = within_less asked k n (omega arith) j

-- there was no memory for the one that entered last
pub within_unserved : {N : Type 0} → (asked : Option ℕ) (left inside inside' entered : ℕ) (may : Bool) (a b c : Option (List (N × Parting)))
    → left + inside ≡ entered → inside' ≡ inside → may ≡ true → (may ≡ true → IsWithin asked (entered + 1)) → AreMore left a b → AreMore 1 b c
    → AreWithin asked a c inside'
within_unserved asked left inside inside' entered may a b c e f g k h i =
    (left + 1, more_both left 1 (left + 1) a b c refl h i, within_less asked (left + 1 + inside') (entered + 1) (omega arith) (k g))
