-- What a table has under a name after entries were told.
use Rattle.std.proofs.Common.{◌≡◌, ℕ, ◌==◌, ◌||◌, List, [], ◌∷◌, ◌++◌, length, Bool, true, false, Option, Some, None, option_and_then, MatchOption, is_some}
use Rattle.std.proofs.Common.{nat_lt, if◌then◌else◌, refl, sym, subst, ◌∙◌, codes}
use Rattle.std.specs.List.{list_any}
use Rattle.std.specs.Str.{bytes_eq}
use Rattle.std.proofs.lemmas.Slice.Eq.{bytes_eq-Decides}
use Rattle.bt_bencode.specs.Trees.{Tree, integer, string, list, dictionary, Pairs, no_pairs, pair}
use Rattle.bt_bencode.specs.Keys.{value_at, lookup_of}
use Rattle.bt_ext.specs.Fields.{id_value}
use Rattle.bt_ext.specs.Tables.{Entries, AreEntries, IsTable, id_of_name, removed, replaced, entered, entered_all, told, told_by, told_in, told_of, applied}
use Rattle.bt_ext.specs.Tables.{id_after, before}
use Rattle.bt_ext.proofs.Entries.{flip, absent, none-append, both_ways, is_none, table-entered}

pub same_name : (x y : List ℕ) → bytes_eq x y ≡ true → x ≡ y
same_name x y h = (bytes_eq-Decides x y).0 h

itself : (x : List ℕ) → bytes_eq x x ≡ true
itself x = (bytes_eq-Decides x x).1 refl

-- ---- after one entry, under its name and under another
removed-name : (name : List ℕ) (es : Entries) → AreEntries es → id_of_name name (removed name es) ≡ None
removed-name name [] h = refl
removed-name name (e ∷ es) h = both_ways _ (bytes_eq e.0 name)
    (λ t. rw t (subst (λ (n : List ℕ). id_of_name n es ≡ None) (same_name e.0 name t) h.2))
    (λ f. rw f (rw f (removed-name name es h.3)))

removed-other : (name other : List ℕ) (es : Entries) → bytes_eq name other ≡ false → id_of_name other (removed name es) ≡ id_of_name other es
removed-other name other [] h = refl
removed-other name other (e ∷ es) h = both_ways _ (bytes_eq e.0 name)
    (λ t. let apart = subst (λ (n : List ℕ). bytes_eq n other ≡ false) (sym (same_name e.0 name t)) h in rw (t, apart) refl)
    (λ f. rw (f, removed-other name other es h) refl)

replaced-name : (name : List ℕ) (id : ℕ) (es : Entries) → is_some (id_of_name name es) ≡ true → id_of_name name (replaced name id es) ≡ Some id
replaced-name name id [] h = absurd (cc)
replaced-name name id (e ∷ es) h = both_ways _ (bytes_eq e.0 name)
    (λ t. rw t (rw t refl))
    (λ f. rw f (rw f (replaced-name name id es (rw f at h))))

replaced-other : (name other : List ℕ) (id : ℕ) (es : Entries) → bytes_eq name other ≡ false → id_of_name other (replaced name id es) ≡ id_of_name other es
replaced-other name other id [] h = refl
replaced-other name other id (e ∷ es) h = both_ways _ (bytes_eq e.0 name)
    (λ t. let apart = subst (λ (n : List ℕ). bytes_eq n other ≡ false) (sym (same_name e.0 name t)) h in rw (t, apart) refl)
    (λ f. rw (f, replaced-other name other id es h) refl)

append-name : (name : List ℕ) (id : ℕ) (es : Entries) → id_of_name name es ≡ None → id_of_name name (es ++ (name, id) ∷ []) ≡ Some id
append-name name id es h = none-append name es ((name, id) ∷ []) h ∙ rw (itself name) refl

append-other : (name other : List ℕ) (id : ℕ) (es : Entries) → bytes_eq name other ≡ false → id_of_name other (es ++ (name, id) ∷ []) ≡ id_of_name other es
append-other name other id [] h = rw h refl
append-other name other id (e ∷ es) h = rw (append-other name other id es h) refl

by_same : (name : List ℕ) (id : ℕ) (es : Entries) → IsTable es → id_of_name name (entered name id es) ≡ id_after name id es
by_same name id es h = both_ways _ (nat_lt 255 (length name)) (λ long. rw long refl)
    (λ short. rw short (both_ways _ (id == 0) (λ off. rw off (removed-name name es h.entries))
    (λ on. rw on (both_ways _ (is_some (id_of_name name es)) (λ there. rw there (replaced-name name id es there))
    (λ new. rw new (both_ways _ (nat_lt (length es) 256) (λ room. rw room (append-name name id es (is_none (id_of_name name es) new)))
    (λ full. rw full (is_none (id_of_name name es) new))))))))

pub by_other : (name other : List ℕ) (id : ℕ) (es : Entries) → bytes_eq name other ≡ false → id_of_name other (entered name id es) ≡ id_of_name other es
by_other name other id es h = both_ways _ (nat_lt 255 (length name)) (λ long. rw long refl)
    (λ short. rw short (both_ways _ (id == 0) (λ off. rw off (removed-other name other es h))
    (λ on. rw on (both_ways _ (is_some (id_of_name name es)) (λ there. rw there (replaced-other name other id es h))
    (λ new. rw new (both_ways _ (nat_lt (length es) 256) (λ room. rw room (append-other name other id es h))
    (λ full. rw full refl)))))))

pub entered-name : (name other : List ℕ) (id : ℕ) (es : Entries) → IsTable es → id_of_name other (entered name id es)
    ≡ (if bytes_eq name other then id_after name id es else id_of_name other es)
entered-name name other id es h = both_ways _ (bytes_eq name other)
    (λ t. rw t (subst (λ (n : List ℕ). id_of_name n (entered name id es) ≡ id_after name id es) (same_name name other t) (by_same name id es h)))
    (λ f. rw f (by_other name other id es f))

-- ---- after entries, each name once
pub table-all : (xs es : Entries) → IsTable es → IsTable (entered_all xs es)
table-all [] es h = h
table-all (x ∷ xs) es h = table-all xs (entered x.0 x.1 es) (table-entered x.0 x.1 es h)

pub table-applied : (t : Tree) (es : Entries) → IsTable es → IsTable (applied t es)
table-applied t es h = table-all (told_of t) es h

all-other : (name : List ℕ) (xs es : Entries) → id_of_name name xs ≡ None → id_of_name name (entered_all xs es) ≡ id_of_name name es
all-other name [] es h = refl
all-other name (x ∷ xs) es h =
    let a = absent (bytes_eq x.0 name) x.1 (id_of_name name xs) h in
    all-other name xs (entered x.0 x.1 es) a.1 ∙ by_other x.0 name x.1 es a.0

before-none : (name : List ℕ) (xs : Entries) → id_of_name name (before name xs) ≡ None
before-none name [] = refl
before-none name (x ∷ xs) = both_ways _ (bytes_eq x.0 name) (λ t. rw t refl) (λ f. rw f (rw f (before-none name xs)))

abbrev AreDistinct : Entries → Type 0
AreDistinct [] = Unit {0}
AreDistinct (x ∷ xs) = (id_of_name x.0 xs ≡ None) × AreDistinct xs

by_turn : (name : List ℕ) (id : ℕ) (xs es : Entries) → AreDistinct xs → IsTable es → id_of_name name xs ≡ Some id → id_of_name name (entered_all xs es)
    ≡ id_after name id (entered_all (before name xs) es)
by_turn name id [] es d h is = absurd (cc)
by_turn name id (x ∷ xs) es d h is = both_ways _ (bytes_eq x.0 name)
    (λ t.
    let e = same_name x.0 name t in
    let k : Some x.1 ≡ Some id = rw t at is in
    let n : x.1 ≡ id = cc in
    let first = all-other x.0 xs (entered x.0 x.1 es) d.0 ∙ by_same x.0 x.1 es h in
    rw (t, ← e, ← n) first)
    (λ f. rw f (by_turn name id xs (entered x.0 x.1 es) d.1 (table-entered x.0 x.1 es h) (rw f at is)))

-- ---- what `m` tells, each name once
or_true : (b : Bool) → (b || true) ≡ true
or_true true = refl
or_true false = refl

skipped : (name k : List ℕ) (o : Option ℕ) (rest : Entries) → bytes_eq k name ≡ false → id_of_name name (told k o ++ rest) ≡ id_of_name name rest
skipped name k None rest h = refl
skipped name k (Some id) rest h = rw h refl

other_name : (name k : List ℕ) (earlier : List (List ℕ)) → list_any (bytes_eq name) earlier ≡ true → list_any (bytes_eq k) earlier ≡ false → bytes_eq k name
    ≡ false
other_name name k earlier h n = both_ways _ (bytes_eq k name)
    (λ t. absurd (let e = rw (same_name k name t) at n in cc))
    (λ f. f)

told-absent : (name : List ℕ) (earlier : List (List ℕ)) (ps : Pairs) → list_any (bytes_eq name) earlier ≡ true → id_of_name name (told_by earlier ps) ≡ None
told-absent name earlier no_pairs h = refl
told-absent name earlier (pair k t ps) h =
    let rest = told-absent name (k ∷ earlier) ps (rw h (or_true (bytes_eq name k))) in
    both_ways _ (list_any (bytes_eq k) earlier)
    (λ there. rw there rest)
    (λ new. rw new (skipped name k (id_value t) (told_by (k ∷ earlier) ps) (other_name name k earlier h new) ∙ rest))

with_name : (k : List ℕ) (o : Option ℕ) (rest : Entries) → id_of_name k rest ≡ None → AreDistinct rest → AreDistinct (told k o ++ rest)
with_name k None rest none d = d
with_name k (Some id) rest none d = (none, d)

told-distinct : (earlier : List (List ℕ)) (ps : Pairs) → AreDistinct (told_by earlier ps)
told-distinct earlier no_pairs = tt
told-distinct earlier (pair k t ps) =
    let rest = told-distinct (k ∷ earlier) ps in
    let none = told-absent k (k ∷ earlier) ps (rw (itself k) refl) in
    both_ways _ (list_any (bytes_eq k) earlier)
    (λ there. rw there rest)
    (λ new. rw new (with_name k (id_value t) (told_by (k ∷ earlier) ps) none rest))

of_distinct : (o : Option Tree) → AreDistinct (told_in o)
of_distinct None = tt
of_distinct (Some (integer z)) = tt
of_distinct (Some (string s)) = tt
of_distinct (Some (list ts)) = tt
of_distinct (Some (dictionary ps)) = told-distinct [] ps

here : (name k : List ℕ) (o : Option ℕ) (rest : Entries) → bytes_eq k name ≡ true → id_of_name name rest ≡ None → id_of_name name (told k o ++ rest) ≡ o
here name k None rest t none = none
here name k (Some id) rest t none = rw t refl

first_from : (name : List ℕ) (earlier : List (List ℕ)) (ps : Pairs) → list_any (bytes_eq name) earlier ≡ false → id_of_name name (told_by earlier ps)
    ≡ option_and_then id_value (value_at name ps)
first_from name earlier no_pairs h = refl
first_from name earlier (pair k t ps) h = both_ways _ (bytes_eq k name)
    (λ same.
    let new : list_any (bytes_eq k) earlier ≡ false = rw (same_name k name same) h in
    let none = told-absent name (k ∷ earlier) ps (rw (flip name k ∙ same) refl) in
    rw (new, same) (here name k (id_value t) (told_by (k ∷ earlier) ps) same none))
    (λ other.
    let rest = first_from name (k ∷ earlier) ps (rw (flip name k ∙ other, h) refl) in
    rw other (both_ways _ (list_any (bytes_eq k) earlier)
    (λ there. rw there rest)
    (λ new. rw new (skipped name k (id_value t) (told_by (k ∷ earlier) ps) other ∙ rest))))

pub first_tells : (name : List ℕ) (ps : Pairs) → id_of_name name (told_by [] ps) ≡ option_and_then id_value (value_at name ps)
first_tells name ps = first_from name [] ps refl

-- ---- after an extended handshake
by_told : (name : List ℕ) (o : Option ℕ) (xs es : Entries) → AreDistinct xs → IsTable es → id_of_name name xs ≡ o
    → MatchOption o (id_of_name name (entered_all xs es) ≡ id_of_name name es)
    (λ id. (id_of_name name (entered_all (before name xs) es) ≡ id_of_name name es)
    × (id_of_name name (entered_all xs es) ≡ id_after name id (entered_all (before name xs) es)))
by_told name None xs es d h is = all-other name xs es is
by_told name (Some id) xs es d h is = (all-other name (before name xs) es (before-none name xs), by_turn name id xs es d h is)

pub applied-name : (t : Tree) (es : Entries) (name : List ℕ) → IsTable es
    → MatchOption (id_of_name name (told_of t)) (id_of_name name (applied t es) ≡ id_of_name name es)
    (λ id. (id_of_name name (entered_all (before name (told_of t)) es) ≡ id_of_name name es)
    × (id_of_name name (applied t es) ≡ id_after name id (entered_all (before name (told_of t)) es)))
applied-name t es name h = by_told name (id_of_name name (told_of t)) (told_of t) es (of_distinct (lookup_of (codes "m") t)) h refl
