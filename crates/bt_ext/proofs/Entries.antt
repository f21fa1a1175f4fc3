-- Entries of a table: look-ups, and what keeps them a table.
use Rattle.std.proofs.Common.{◌≡◌, ℕ, zero, suc, ◌<◌, ◌≤◌, ◌==◌, List, [], ◌∷◌, ◌++◌, length, take, get_or, Bool, true, false, Option, Some}
use Rattle.std.proofs.Common.{None, is_some, IfSome, nat_lt, if◌then◌else◌, Result, Ok, Err, OnOk, OnErr, refl, sym, ap, subst, ◌∙◌, arith}
use Rattle.std.proofs.Common.{length-append}
use Rattle.std.specs.declared.alloc.AllocError.{AllocError}
use Rattle.std.specs.List.{remove, slice_set}
use Rattle.std.specs.Bool.{Decides}
use Rattle.std.specs.Str.{bytes_eq}
use Rattle.std.proofs.lemmas.Slice.Eq.{bytes_eq-Decides}
use Rattle.std.proofs.lemmas.Grind.{common_steps}
use Rattle.bt_ext.specs.Tables.{Entries, id_of_name, AreEntries, IsTable, removed, replaced, entered}
use Rattle.bt_ext.specs.Holding.{HoldsAt}

-- names that differ, either way round
pub flip : (x y : List ℕ) → bytes_eq x y ≡ bytes_eq y x
flip x y = agree (bytes_eq x y) (bytes_eq y x) (bytes_eq-Decides x y) (bytes_eq-Decides y x) where
  agree : (b c : Bool) → Decides b (x ≡ y) → Decides c (y ≡ x) → b ≡ c
  agree true c h k = sym (k.1 (sym (h.0 refl)))
  agree false true h k = h.1 (sym (k.0 refl))
  agree false false h k = refl

-- a name that isn't there
pub absent : (b : Bool) (n : ℕ) (o : Option ℕ) → (if b then Some n else o) ≡ None → (b ≡ false) × (o ≡ None)
absent true n o h = absurd (cc)
absent false n o h = (refl, h)

pub removed-absent : (name : List ℕ) (es : Entries) → id_of_name name es ≡ None → removed name es ≡ es
removed-absent name [] h = refl
removed-absent name (e ∷ es) h =
    let a = absent (bytes_eq e.0 name) e.1 (id_of_name name es) h in
    rw (a.0, removed-absent name es a.1) refl

-- a name that stands first at a place
pub found : (name : List ℕ) (es : Entries) (i : ℕ) (e : List ℕ × ℕ) → i < length es → e ≡ get_or es i e → bytes_eq e.0 name ≡ true
    → id_of_name name (take i es) ≡ None
    → (id_of_name name es ≡ Some e.1) × (removed name es ≡ remove es i) × ((id : ℕ) → replaced name id es ≡ slice_set es i (e.0, id))
found name [] i e lt is same none = absurd (omega arith)
found name (x ∷ es) zero e lt is same none =
    let h : bytes_eq x.0 name ≡ true = subst (λ (y : List ℕ × ℕ). bytes_eq y.0 name ≡ true) is same in
    let back = sym is in
    rw h (ap (λ (y : List ℕ × ℕ). Some y.1) back, refl, λ id. ap (λ (y : List ℕ × ℕ). (y.0, id) ∷ es) back)
found name (x ∷ es) (suc i) e lt is same none =
    let a = absent (bytes_eq x.0 name) x.1 (id_of_name name (take i es)) none in
    let f = found name es i e (omega arith) is same a.1 in
    rw a.0 (f.0, ap (λ (l : Entries). x ∷ l) f.1, λ id. ap (λ (l : Entries). x ∷ l) (f.2 id))

-- ---- what is no entry's name stays none
none-removed : (other name : List ℕ) (es : Entries) → id_of_name other es ≡ None → id_of_name other (removed name es) ≡ None
none-removed other name [] h = refl
none-removed other name (e ∷ es) h =
    let a = absent (bytes_eq e.0 other) e.1 (id_of_name other es) h in
    elim (bytes_eq e.0 name) as (λ b. id_of_name other (if b then es else e ∷ removed name es) ≡ None) [
      | true ↦ a.1
      | false ↦ rw a.0 (none-removed other name es a.1)
    ]

none-replaced : (other name : List ℕ) (id : ℕ) (es : Entries) → id_of_name other es ≡ None → id_of_name other (replaced name id es) ≡ None
none-replaced other name id [] h = refl
none-replaced other name id (e ∷ es) h =
    let a = absent (bytes_eq e.0 other) e.1 (id_of_name other es) h in
    elim (bytes_eq e.0 name) as (λ b. id_of_name other (if b then (e.0, id) ∷ es else e ∷ replaced name id es) ≡ None) [
      | true ↦ rw a.0 a.1
      | false ↦ rw a.0 (none-replaced other name id es a.1)
    ]

pub none-append : (other : List ℕ) (xs ys : Entries) → id_of_name other xs ≡ None → id_of_name other (xs ++ ys) ≡ id_of_name other ys
none-append other [] ys h = refl
none-append other (e ∷ xs) ys h =
    let a = absent (bytes_eq e.0 other) e.1 (id_of_name other xs) h in
    rw a.0 (none-append other xs ys a.1)

-- ---- what stays a table
entries-removed : (name : List ℕ) (es : Entries) → AreEntries es → AreEntries (removed name es)
entries-removed name [] h = tt
entries-removed name (e ∷ es) h =
    elim (bytes_eq e.0 name) as (λ b. AreEntries (if b then es else e ∷ removed name es)) [
      | true ↦ h.3
      | false ↦ (h.0, h.1, none-removed e.0 name es h.2, entries-removed name es h.3)
    ]

entries-replaced : (name : List ℕ) (id : ℕ) (es : Entries) → 0 < id → AreEntries es → AreEntries (replaced name id es)
entries-replaced name id [] above h = tt
entries-replaced name id (e ∷ es) above h =
    elim (bytes_eq e.0 name) as (λ b. AreEntries (if b then (e.0, id) ∷ es else e ∷ replaced name id es)) [
      | true ↦ (h.0, above, h.2, h.3)
      | false ↦ (h.0, h.1, none-replaced e.0 name id es h.2, entries-replaced name id es above h.3)
    ]

entries-append : (name : List ℕ) (id : ℕ) (es : Entries) → length name ≤ 255 → 0 < id → id_of_name name es ≡ None → AreEntries es
    → AreEntries (es ++ (name, id) ∷ [])
entries-append name id [] short above none h = (short, above, refl, tt)
entries-append name id (e ∷ es) short above none h =
    let a = absent (bytes_eq e.0 name) e.1 (id_of_name name es) none in
    let apart = flip name e.0 ∙ a.0 in
    (h.0, h.1, none-append e.0 es ((name, id) ∷ []) h.2 ∙ rw apart refl, entries-append name id es short above a.1 h.3)

length-removed : (name : List ℕ) (es : Entries) → length (removed name es) ≤ length es
length-removed name [] = omega arith
length-removed name (e ∷ es) =
    let less = length-removed name es in
    elim (bytes_eq e.0 name) as (λ b. length (if b then es else e ∷ removed name es) ≤ suc (length es)) [
      | true ↦ omega arith
      | false ↦ omega arith
    ]

length-replaced : (name : List ℕ) (id : ℕ) (es : Entries) → length (replaced name id es) ≡ length es
length-replaced name id [] = refl
length-replaced name id (e ∷ es) =
    elim (bytes_eq e.0 name) as (λ b. length (if b then (e.0, id) ∷ es else e ∷ replaced name id es) ≡ suc (length es)) [
      | true ↦ refl
      | false ↦ ap suc (length-replaced name id es)
    ]

-- both answers of a test
pub both_ways : (P : Type 0) (b : Bool) → (b ≡ true → P) → (b ≡ false → P) → P
both_ways P true holds fails = holds refl
both_ways P false holds fails = fails refl

short_name : (n : ℕ) → nat_lt 255 n ≡ false → n ≤ 255
short_name n h = grind (arith, common_steps)

pub is_few : (n : ℕ) → nat_lt n 256 ≡ true → n < 256
is_few n h = grind (arith, common_steps)

pub above_0 : (n : ℕ) → (n == 0) ≡ false → 0 < n
above_0 n h = grind (arith, common_steps)

pub is_none : (o : Option ℕ) → is_some o ≡ false → o ≡ None
is_none None h = refl
is_none (Some n) h = absurd (cc)

-- a table stays one
pub table-entered : (name : List ℕ) (id : ℕ) (es : Entries) → IsTable es → IsTable (entered name id es)
table-entered name id es h =
    both_ways _ (nat_lt 255 (length name)) (λ long. rw long h)
    (λ short. rw short (both_ways _ (id == 0)
    (λ off. rw off (let less = length-removed name es in let few = h.few in record { entries = entries-removed name es h.entries; few = omega arith }))
    (λ on. rw on (both_ways _ (is_some (id_of_name name es))
    (λ there. rw there (record { entries = entries-replaced name id es (above_0 id on) h.entries; few = rw (length-replaced name id es) h.few }))
    (λ new. rw new (both_ways _ (nat_lt (length es) 256)
    (λ room. rw room (let more = length-append es ((name, id) ∷ []) in let few = is_few (length es) room in
    record {
      entries = entries-append name id es (short_name (length name) short) (above_0 id on) (is_none (id_of_name name es) new) h.entries;
      few = omega arith;
    }))
    (λ full. rw full h)))))))

-- one more entry that has another name
pub none_more : (name : List ℕ) (es : Entries) (i : ℕ) (e : List ℕ × ℕ) → i < length es → e ≡ get_or es i e → bytes_eq e.0 name ≡ false
    → id_of_name name (take i es) ≡ None → id_of_name name (take (suc i) es) ≡ None
none_more name [] i e lt is other h = absurd (omega arith)
none_more name (x ∷ es) zero e lt is other h =
    let k : bytes_eq x.0 name ≡ false = subst (λ (y : List ℕ × ℕ). bytes_eq y.0 name ≡ false) is other in
    rw k refl
none_more name (x ∷ es) (suc i) e lt is other h =
    let a = absent (bytes_eq x.0 name) x.1 (id_of_name name (take i es)) h in
    rw a.0 (none_more name es i e (omega arith) is other a.1)

-- no id of a table is 0
pub above : (name : List ℕ) (es : Entries) → AreEntries es → IfSome (id_of_name name es) (λ id. 0 < id)
above name [] h = tt
above name (e ∷ es) h = elim (bytes_eq e.0 name) as (λ b. IfSome (if b then Some e.1 else id_of_name name es) (λ id. 0 < id)) [
  | true ↦ h.1
  | false ↦
      above name es h.3
]

not_0 : (n : ℕ) → 0 < n → (n == 0) ≡ false
not_0 n h = grind (arith, common_steps)

-- ---- the steps of `enter`, by the place of the name
not_long : (n : ℕ) → n ≤ 255 → nat_lt 255 n ≡ false
not_long n h = grind (arith, common_steps)

is_0 : (n : ℕ) → n ≡ 0 → (n == 0) ≡ true
is_0 n h = rw h refl

isnt_0 : (n : ℕ) → (n ≡ 0 → ⊥) → (n == 0) ≡ false
isnt_0 n h = not_0 n (omega (arith, h))

pub id_at : (name : List ℕ) (es : Entries) (i : ℕ) (e : List ℕ × ℕ) → HoldsAt name es (Some i) → e ≡ get_or es i e → Some e.1 ≡ id_of_name name es
id_at name es i e h is = sym (found name es i e h.0 is (h.1 e is) h.2).0

pub remove-at : (name : List ℕ) (id : ℕ) (es : Entries) (i : ℕ) (e : List ℕ × ℕ) → length name ≤ 255 → id ≡ 0 → HoldsAt name es (Some i) → e ≡ get_or es i e
    → remove es i ≡ entered name id es
remove-at name id es i e short none h is =
    rw (not_long (length name) short, is_0 id none) (sym (found name es i e h.0 is (h.1 e is) h.2).1)

pub replace-at : (name : List ℕ) (id : ℕ) (es : Entries) (i : ℕ) (e : List ℕ × ℕ) → length name ≤ 255 → (id ≡ 0 → ⊥) → HoldsAt name es (Some i) → e
    ≡ get_or es i e → slice_set es i (e.0, id) ≡ entered name id es
replace-at name id es i e short other h is =
    let f = found name es i e h.0 is (h.1 e is) h.2 in
    rw (not_long (length name) short, isnt_0 id other, f.0) (sym (f.2 id))

pub keep-absent : (name : List ℕ) (id : ℕ) (es : Entries) → length name ≤ 255 → id ≡ 0 → id_of_name name es ≡ None → es ≡ entered name id es
keep-absent name id es short off none =
    rw (not_long (length name) short, is_0 id off) (sym (removed-absent name es none))

-- a name that isn't there and isn't to be added changes nothing
pub stays_absent : (name : List ℕ) (id : ℕ) (es : Entries) → id_of_name name es ≡ None → (0 < id → length es < 256 → ⊥) → es ≡ entered name id es
stays_absent name id es none full =
    both_ways _ (nat_lt 255 (length name)) (λ long. rw long refl)
    (λ short. rw short (both_ways _ (id == 0)
    (λ off. rw off (sym (removed-absent name es none)))
    (λ on. rw (on, none) (both_ways _ (nat_lt (length es) 256)
    (λ room. absurd (full (above_0 id on) (is_few (length es) room)))
    (λ no. rw no refl)))))

-- a table after `enter`, which may want memory
pub table-after : (name : List ℕ) (id : ℕ) (old new : Entries) (r : Result (Unit {0}) AllocError) → IsTable old → OnOk r (new ≡ entered name id old)
    → OnErr r (new ≡ old) → IsTable new
table-after name id old new (Ok x) h ok err = subst IsTable (sym ok) (table-entered name id old h)
table-after name id old new (Err x) h ok err = subst IsTable (sym err) h
