-- Whether there was memory for the last connection whose end was told.
use Rattle.std.proofs.Common.{◌≡◌, ◌&&◌, ℕ, ◌+◌, ◌<◌, ◌≤◌, Bool, true, false, List, [], ◌∷◌, ◌++◌, length, Option, Some, None, refl, sym, ap, subst, ◌∙◌, arith, length-append, inl, inr}
use Rattle.std.proofs.Math.Bool.{and-true}
use Rattle.std.proofs.lemmas.List.{append-nil, append_assoc}
use Rattle.std.specs.List.{list_all}
use Rattle.bt_exchange.specs.Lists.{IsAdded}
use Rattle.bt_serve.specs.Doors.{AreAdmitted, AreMore, AreTold, AreToldOf, AreToldUpTo, IsLast, last_served_or, last_was_served, was_served}
use Rattle.bt_serve.specs.declared.door.Parting.{Parting}

last_append : {N : Type 0} → (b : Bool) (xs ys : List (N × Parting)) → last_served_or b (xs ++ ys) ≡ last_served_or (last_served_or b xs) ys
last_append b [] ys = refl
last_append b (x ∷ xs) ys = last_append (was_served x) xs ys

-- each of them was served
last_all : {N : Type 0} → (b : Bool) (x : N × Parting) (xs : List (N × Parting)) → list_all was_served (x ∷ xs) ≡ true → last_served_or b (x ∷ xs) ≡ true
last_all b x [] e = sym (and-true (was_served x)) ∙ e
last_all b x (y ∷ xs) e = last_all (was_served x) y xs (right (was_served x) (list_all was_served (y ∷ xs)) e)
  where
    right : (p q : Bool) → (p && q) ≡ true → q ≡ true
    right true q e = e
    right false q e = absurd (cc)

-- one for whom there was no memory, at the end
of_one : {N : Type 0} → (a b : Option (List (N × Parting))) (x : N × Parting) (served : Bool) → IsAdded a b x → was_served x ≡ served → AreToldOf a b served
of_one None b x served h s = tt
of_one (Some xs) None x served h s = absurd h
of_one (Some xs) (Some ys) x served h s = (x ∷ [], h, s)

-- nobody was told of at first
pub of_after : {N : Type 0} → (a b c : Option (List (N × Parting))) (x : N × Parting) (served : Bool) → b ≡ a → IsAdded b c x → was_served x ≡ served
    → AreToldOf a c served
of_after a b c x served e h s = subst (λ y. AreToldOf y c served) e (of_one b c x served h s)

pub up_to_none : {N : Type 0} → (inside : ℕ) (o : Option (List (N × Parting))) → AreToldUpTo inside o o true
up_to_none inside None = tt
up_to_none inside (Some xs) = ([], sym (append-nil xs), inl refl)

pub up_to_same : {N : Type 0} → (inside : ℕ) (a b c : Option (List (N × Parting))) (served : Bool) → c ≡ b → AreToldUpTo inside a b served
    → AreToldUpTo inside a c served
up_to_same inside a b c served e h = subst (λ x. AreToldUpTo inside a x served) (sym e) h

-- somebody is inside, and more were told
up_to_inside : {N : Type 0} → (inside inside' : ℕ) (served : Bool) (a b c : Option (List (N × Parting))) → 0 < inside' → AreToldUpTo inside a b true
    → AreToldOf b c served → AreToldUpTo inside' a c true
up_to_inside inside inside' served None b c lt h i = tt
up_to_inside inside inside' served (Some xs) None c lt h i = absurd h
up_to_inside inside inside' served (Some xs) (Some ys) None lt h i = absurd i
up_to_inside {N} inside inside' served (Some xs) (Some ys) (Some zs) lt h i =
    (h.0 ++ i.0, i.1 ∙ ap (λ (l : List (N × Parting)). l ++ i.0) h.1 ∙ append_assoc xs h.0 i.0, inr lt)

-- more were inside
up_to_more : {N : Type 0} → (inside inside' : ℕ) (a b : Option (List (N × Parting))) → inside ≤ inside' → AreToldUpTo inside a b true
    → AreToldUpTo inside' a b true
up_to_more inside inside' None b le h = tt
up_to_more inside inside' (Some xs) None le h = absurd h
up_to_more inside inside' (Some xs) (Some ys) le h = (h.0, h.1, elim h.2 [ inl e ↦ inl e | inr lt ↦ inr (omega arith) ])

-- one came, and may be gone already
pub up_to_admitted : {N : Type 0} → (inside came gone inside' : ℕ) (a b c : Option (List (N × Parting))) → inside' + gone ≡ inside + came
    → AreToldUpTo inside a b true → AreAdmitted gone inside' b c → AreToldUpTo inside' a c true
up_to_admitted inside came gone inside' a b c e h i = elim i [
  | inl p ↦ up_to_same inside' a b c true p.1 (up_to_more inside inside' a b (let z = p.0 in omega arith) h)
  | inr p ↦ up_to_inside inside inside' false a b c p.1 h p.2
]

-- Those who ended were served.
pub up_to_served : {N : Type 0} → (inside ended inside' : ℕ) (a b c : Option (List (N × Parting))) → inside' + ended ≡ inside
    → AreToldUpTo inside a b true → AreTold b c true → AreMore ended b c → AreToldUpTo inside' a c true
up_to_served inside ended inside' None b c e h i k = tt
up_to_served inside ended inside' (Some xs) None c e h i k = absurd h
up_to_served inside ended inside' (Some xs) (Some ys) None e h i k = absurd i
up_to_served {N} inside ended inside' (Some xs) (Some ys) (Some zs) e h i k =
    (h.0 ++ i.0, i.1 ∙ ap (λ (l : List (N × Parting)). l ++ i.0) h.1 ∙ append_assoc xs h.0 i.0, last h.0 i.0 h.2 i.2 size)
  where
    size : length i.0 ≡ ended
    size = omega (arith, ap (λ (l : List (N × Parting)). length l) i.1, length-append ys i.0)

    last : (old more : List (N × Parting)) → IsLast inside true (last_was_served old) → list_all was_served more ≡ true → length more ≡ ended
        → IsLast inside' true (last_was_served (old ++ more))
    last old [] l all s = elim l [
      | inl t ↦ inl (last_append true old [] ∙ t)
      | inr lt ↦ inr (omega (arith, s))
    ]
    last old (x ∷ more) l all s = inl (last_append true old (x ∷ more) ∙ last_all (last_was_served old) x more all)

-- Nobody is inside, and there was no memory for the one that came last.
pub up_to_unserved : {N : Type 0} → (inside inside' : ℕ) (a b c : Option (List (N × Parting))) → inside' ≡ 0 → AreToldUpTo inside a b true
    → AreToldOf b c false → AreToldUpTo inside' a c false
up_to_unserved inside inside' None b c z h i = tt
up_to_unserved inside inside' (Some xs) None c z h i = absurd h
up_to_unserved inside inside' (Some xs) (Some ys) None z h i = absurd i
up_to_unserved {N} inside inside' (Some xs) (Some ys) (Some zs) z h i =
    (h.0 ++ i.0, i.1 ∙ ap (λ (l : List (N × Parting)). l ++ i.0) h.1 ∙ append_assoc xs h.0 i.0, (last h.0 i.0 i.2, z))
  where
    last : (old more : List (N × Parting)) → last_was_served more ≡ false → last_was_served (old ++ more) ≡ false
    last old [] e = absurd (cc)
    last old (x ∷ more) e = last_append true old (x ∷ more) ∙ e

-- The ends of those who are inside are told.
pub of_all : {N : Type 0} → (inside : ℕ) (a b c : Option (List (N × Parting))) (served : Bool) → AreToldUpTo inside a b served → AreTold b c true
    → AreMore inside b c → AreToldOf a c served
of_all inside None b c served h i k = tt
of_all inside (Some xs) None c served h i k = absurd h
of_all inside (Some xs) (Some ys) None served h i k = absurd i
of_all {N} inside (Some xs) (Some ys) (Some zs) served h i k =
    (h.0 ++ i.0, i.1 ∙ ap (λ (l : List (N × Parting)). l ++ i.0) h.1 ∙ append_assoc xs h.0 i.0, last h.0 i.0 served h.2 i.2 size)
  where
    size : length i.0 ≡ inside
    size = omega (arith, ap (λ (l : List (N × Parting)). length l) i.1, length-append ys i.0)

    last : (old more : List (N × Parting)) (served : Bool) → IsLast inside served (last_was_served old) → list_all was_served more ≡ true
        → length more ≡ inside → last_was_served (old ++ more) ≡ served
    last old [] true l all s = elim l [
      | inl t ↦ last_append true old [] ∙ t
      | inr lt ↦ absurd (omega (arith, s))
    ]
    last old [] false l all s = last_append true old [] ∙ l.0
    last old (x ∷ more) true l all s = last_append true old (x ∷ more) ∙ last_all (last_was_served old) x more all
    last old (x ∷ more) false l all s = let z = l.1 in absurd (omega (arith, s))
