-- What copies of pairs, and ids at places, make of a table.
use Rattle.std.proofs.Common.{◌≡◌, ℕ, zero, suc, ◌<◌, ◌≤◌, List, [], ◌∷◌, ◌++◌, length, get_or, true, Option, Some, None}
use Rattle.std.proofs.Common.{◌+◌, Bor, take, subst, drop, drop-cons, add-one, Result, Ok, Err, OnOk, refl, sym, ap, ◌∙◌, arith}
use Rattle.std.specs.declared.alloc.AllocError.{AllocError}
use Rattle.std.specs.List.{slice_set}
use Rattle.std.specs.Str.{bytes_eq}
use Rattle.bt_ext.specs.Tables.{Entries, id_of_name, entered, entered_all}
use Rattle.bt_ext.specs.Holding.{entries_of, HoldsAt}
use Rattle.bt_ext.specs.Updates.{with_id, renumbered}
use Rattle.bt_ext.proofs.Entries.{absent, replace-at, keep-absent}

-- the pairs that are left, after one of them
abbrev Told : Type 0
Told = List (Bor (List ℕ) × ℕ)

abbrev pub at : Told → ℕ → Bor (List ℕ) × ℕ
at told i = get_or told i (record { ref_ptr = (0, 0); now = [] }, 0)

left : (told : Told) (i : ℕ) → i < length told → entries_of (drop i told) ≡ ((at told i).0.now, (at told i).1) ∷ entries_of (drop (i + 1) told)
left told i h = rw add-one (ap entries_of (drop-cons told i (record { ref_ptr = (0, 0); now = [] }, 0) h))

-- ---- copies of pairs
all-append : (xs : Entries) (name : List ℕ) (id : ℕ) (es : Entries) → entered_all (xs ++ (name, id) ∷ []) es ≡ entered name id (entered_all xs es)
all-append [] name id es = refl
all-append (x ∷ xs) name id es = all-append xs name id (entered x.0 x.1 es)

pub copied : (r : Result (Unit {0}) AllocError) (old new : Entries) (name : List ℕ) (id : ℕ) → OnOk r (new ≡ old ++ (name, id) ∷ [])
    → OnOk r ((es : Entries) → entered_all new es ≡ entered name id (entered_all old es))
copied (Ok x) old new name id h = λ es. rw h (all-append old name id es)
copied (Err x) old new name id h = tt

-- ---- ids at places
id_of_with : (name : List ℕ) (j id i : ℕ) (es : Entries) → id_of_name name (take i es) ≡ None → id_of_name name (take i (with_id j id es)) ≡ None
id_of_with name j id i [] h = h
id_of_with name zero id zero (x ∷ es) h = refl
id_of_with name (suc j) id zero (x ∷ es) h = refl
id_of_with name zero id (suc i) (x ∷ es) h =
    let a = absent (bytes_eq x.0 name) x.1 _ h in
    rw a.0 a.1
id_of_with name (suc j) id (suc i) (x ∷ es) h =
    let a = absent (bytes_eq x.0 name) x.1 _ h in
    rw a.0 (id_of_with name j id i es a.1)

none_with : (name : List ℕ) (j id : ℕ) (es : Entries) → id_of_name name es ≡ None → id_of_name name (with_id j id es) ≡ None
none_with name j id [] h = h
none_with name zero id (x ∷ es) h =
    let a = absent (bytes_eq x.0 name) x.1 _ h in
    rw a.0 a.1
none_with name (suc j) id (x ∷ es) h =
    let a = absent (bytes_eq x.0 name) x.1 _ h in
    rw a.0 (none_with name j id es a.1)

length_with : (j id : ℕ) (es : Entries) → length (with_id j id es) ≡ length es
length_with j id [] = refl
length_with zero id (x ∷ es) = refl
length_with (suc j) id (x ∷ es) = ap suc (length_with j id es)

-- the name at a place
name_with : (name : List ℕ) (j id i : ℕ) (es : Entries) → i < length es → ((e : List ℕ × ℕ) → e ≡ get_or es i e → bytes_eq e.0 name ≡ true)
    → (e : List ℕ × ℕ) → e ≡ get_or (with_id j id es) i e → bytes_eq e.0 name ≡ true
name_with name j id i [] lt h e is = absurd (omega (arith, lt))
name_with name zero id zero (x ∷ es) lt h e is = subst (λ (y : List ℕ × ℕ). bytes_eq y.0 name ≡ true) (sym is) (h x refl)
name_with name (suc j) id zero (x ∷ es) lt h e is = h e is
name_with name zero id (suc i) (x ∷ es) lt h e is = h e is
name_with name (suc j) id (suc i) (x ∷ es) lt h e is = name_with name j id i es (omega (arith, lt)) h e is

holds_with : (name : List ℕ) (j id : ℕ) (es : Entries) (o : Option ℕ) → HoldsAt name es o → HoldsAt name (with_id j id es) o
holds_with name j id es None h = none_with name j id es h
holds_with name j id es (Some i) h =
    (rw (length_with j id es) h.0, name_with name j id i es h.0 h.1, id_of_with name j id i es h.2)

holds_all : (name : List ℕ) (ps : List (ℕ × ℕ)) (es : Entries) (o : Option ℕ) → HoldsAt name es o → HoldsAt name (renumbered ps es) o
holds_all name [] es o h = h
holds_all name (p ∷ ps) es o h = holds_all name ps (with_id p.0 p.1 es) o (holds_with name p.0 p.1 es o h)

renumbered_more : (ps : List (ℕ × ℕ)) (i id : ℕ) (es : Entries) → renumbered (ps ++ (i, id) ∷ []) es ≡ with_id i id (renumbered ps es)
renumbered_more [] i id es = refl
renumbered_more (p ∷ ps) i id es = renumbered_more ps i id (with_id p.0 p.1 es)

pub with_set : (i id : ℕ) (es : Entries) (e : List ℕ × ℕ) → i < length es → e ≡ get_or es i e → slice_set es i (e.0, id) ≡ with_id i id es
with_set i id [] e lt is = absurd (omega (arith, lt))
with_set zero id (x ∷ es) e lt is = ap (λ (y : List ℕ × ℕ). (y.0, id) ∷ es) is
with_set (suc i) id (x ∷ es) e lt is = ap (λ (l : Entries). x ∷ l) (with_set i id es e (omega (arith, lt)) is)

pub with_none : (i id : ℕ) (es : Entries) → length es ≤ i → es ≡ with_id i id es
with_none i id [] h = refl
with_none zero id (x ∷ es) h = absurd (omega (arith, h))
with_none (suc i) id (x ∷ es) h = ap (λ (l : Entries). x ∷ l) (with_none i id es (omega (arith, h)))

-- the entry at a place
there_at : (es : Entries) (i : ℕ) → i < length es → (e : List ℕ × ℕ) × (e ≡ get_or es i e)
there_at [] i lt = absurd (omega (arith, lt))
there_at (x ∷ es) zero lt = (x, refl)
there_at (x ∷ es) (suc i) lt = there_at es i (omega (arith, lt))

-- a pair whose name stands at a place
pub placed : (name : List ℕ) (id i : ℕ) (ps : List (ℕ × ℕ)) (es : Entries) → length name ≤ 255 → (id ≡ 0 → ⊥) → HoldsAt name es (Some i)
    → renumbered (ps ++ (i, id) ∷ []) es ≡ entered name id (renumbered ps es)
placed name id i ps es short on h =
    let now = renumbered ps es in
    let k = holds_all name ps es (Some i) h in
    let e = there_at now i k.0 in
    renumbered_more ps i id es ∙ sym (with_set i id now e.0 k.0 e.1) ∙ replace-at name id now i e.0 short on k e.1

-- a pair whose name isn't there, and isn't to be added
pub unplaced : (name : List ℕ) (id : ℕ) (ps : List (ℕ × ℕ)) (es : Entries) → length name ≤ 255 → id ≡ 0 → HoldsAt name es None
    → renumbered ps es ≡ entered name id (renumbered ps es)
unplaced name id ps es short off h = keep-absent name id (renumbered ps es) short off (holds_all name ps es None h)

-- the pairs that are left, after one whose places are taken
pub place-step : (told : Told) (i : ℕ) (es now new all : Entries) → i < length told → new ≡ entered (at told i).0.now (at told i).1 now
    → entered_all (entries_of (drop i told)) now ≡ all → entered_all (entries_of (drop (i + 1) told)) new ≡ all
place-step told i es now new all h is k = rw is (rw (left told i h) at k)
