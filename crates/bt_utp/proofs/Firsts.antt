-- The first ones of each kind, and which of the datagrams are kept, after one more.
use Rattle.std.proofs.Common.{◌≡◌, ℕ, ◌+◌, ◌<◌, ◌≤◌, Bool, true, false, ◌&&◌, ◌||◌, cond, if◌then◌else◌, nat_lt, List, [], ◌∷◌, ◌++◌, length, map}
use Rattle.std.proofs.Common.{refl, sym, ◌∙◌, ap, subst, arith, inl, inr}
use Rattle.std.specs.Prelude.{◌==◌}
use Rattle.std.specs.List.{filter, list_any, IsDistinct}
use Rattle.std.specs.Cmp.{IsEquivalence}
use Rattle.std.proofs.lemmas.Bool.{cases_Bool}
use Rattle.std.proofs.lemmas.Bool.Decides.{nat_tests}
use Rattle.std.proofs.lemmas.List.Sums.{fold_push}
use Rattle.std.proofs.lemmas.List.Folds.{list_any-append}
use Rattle.std.proofs.lemmas.Map.Keys.{IsDistinct-push}
use Rattle.bt_packet.specs.Utp.{UtpPacket}
use Rattle.bt_utp.specs.Flows.{same_ends, same_id, firsts, has_room, kept, between, ids_of}
use Rattle.bt_utp.proofs.Ends.{ends_laws}

pub append_none : (ds : List UtpPacket) → ds ++ [] ≡ ds
append_none [] = refl
append_none (d ∷ ds) = ap (λ l. d ∷ l) (append_none ds)

append_assoc : (a b c : List UtpPacket) → (a ++ b) ++ c ≡ a ++ (b ++ c)
append_assoc [] b c = refl
append_assoc (d ∷ a) b c = ap (λ l. d ∷ l) (append_assoc a b c)

-- what holds of no datagrams, and of one more than those of which it holds
module _ (P : List UtpPacket → Type 0) (more : (ds : List UtpPacket) (d : UtpPacket) → P ds → P (ds ++ d ∷ [])) where
  from_front : (front rest : List UtpPacket) → P front → P (front ++ rest)
  from_front front [] h = subst P (sym (append_none front)) h
  from_front front (d ∷ rest) h = subst P (append_assoc front (d ∷ []) rest) (from_front (front ++ d ∷ []) rest (more front d h))

  pub by_last : P [] → (ds : List UtpPacket) → P ds
  by_last none ds = from_front [] ds none

-- ---- one more

pub kept_more : (ds : List UtpPacket) (d : UtpPacket) → has_room (kept ds) d ≡ true → kept (ds ++ d ∷ []) ≡ kept ds ++ d ∷ []
unfolding kept
kept_more ds d h = fold_push (λ ks e. if has_room ks e then ks ++ e ∷ [] else ks) [] ds d ∙ ap (λ t. if t then kept ds ++ d ∷ [] else kept ds) h

pub kept_same : (ds : List UtpPacket) (d : UtpPacket) → has_room (kept ds) d ≡ false → kept (ds ++ d ∷ []) ≡ kept ds
unfolding kept
kept_same ds d h = fold_push (λ ks e. if has_room ks e then ks ++ e ∷ [] else ks) [] ds d ∙ ap (λ t. if t then kept ds ++ d ∷ [] else kept ds) h

module _ (same : UtpPacket → UtpPacket → Bool) where
  pub known : (ds : List UtpPacket) (d : UtpPacket) → list_any (same d) (firsts same ds) ≡ true → firsts same (ds ++ d ∷ []) ≡ firsts same ds
  unfolding firsts
  known ds d h =
      fold_push (λ fs e. if list_any (same e) fs then fs else fs ++ e ∷ []) [] ds d
      ∙ ap (λ t. if t then firsts same ds else firsts same ds ++ d ∷ []) h

  pub fresh : (ds : List UtpPacket) (d : UtpPacket) → list_any (same d) (firsts same ds) ≡ false → firsts same (ds ++ d ∷ []) ≡ firsts same ds ++ d ∷ []
  unfolding firsts
  fresh ds d h =
      fold_push (λ fs e. if list_any (same e) fs then fs else fs ++ e ∷ []) [] ds d
      ∙ ap (λ t. if t then firsts same ds else firsts same ds ++ d ∷ []) h

or_false : (b : Bool) → (b || false) ≡ b
or_false true = refl
or_false false = refl

pub any_push : (p : UtpPacket → Bool) (ds : List UtpPacket) (d : UtpPacket) → list_any p (ds ++ d ∷ []) ≡ (list_any p ds || p d)
any_push p ds d = list_any-append p ds (d ∷ []) ∙ ap (λ t. list_any p ds || t) (or_false (p d))

module _ {same : UtpPacket → UtpPacket → Bool} (laws : IsEquivalence same) where
  any_alike : (x y : UtpPacket) (ds : List UtpPacket) → same x y ≡ true → list_any (same x) ds ≡ list_any (same y) ds
  any_alike x y [] h = refl
  any_alike x y (d ∷ ds) h = ap (λ t. t || list_any (same x) ds) (laws.congr x y d h) ∙ ap (λ t. same y d || t) (any_alike x y ds h)

  absorbed : (a b : Bool) → (b ≡ true → a ≡ true) → a ≡ (a || b)
  absorbed true b h = refl
  absorbed false true h = h refl
  absorbed false false h = refl

  -- the kind of each one is among the first ones
  none_first : (x : UtpPacket) → list_any (same x) (firsts same []) ≡ list_any (same x) []
  unfolding firsts
  none_first x = refl

  more_first : (x : UtpPacket) (ds : List UtpPacket) (d : UtpPacket) → list_any (same x) (firsts same ds) ≡ list_any (same x) ds
      → list_any (same x) (firsts same (ds ++ d ∷ [])) ≡ list_any (same x) (ds ++ d ∷ [])
  more_first x ds d h = elim (cases_Bool (list_any (same d) (firsts same ds))) [
    | inl there ↦
        ap (list_any (same x)) (known same ds d there) ∙ h
        ∙ absorbed (list_any (same x) ds) (same x d) (λ e. sym h ∙ any_alike x d (firsts same ds) e ∙ there)
        ∙ sym (any_push (same x) ds d)
    | inr none ↦
        ap (list_any (same x)) (fresh same ds d none) ∙ any_push (same x) (firsts same ds) d
        ∙ ap (λ t. t || same x d) h ∙ sym (any_push (same x) ds d)
  ]

  pub any_first : (x : UtpPacket) (ds : List UtpPacket) → list_any (same x) (firsts same ds) ≡ list_any (same x) ds
  any_first x ds = by_last (λ ds. list_any (same x) (firsts same ds) ≡ list_any (same x) ds) (more_first x) (none_first x) ds

  none_apart : IsDistinct same (firsts same [])
  unfolding IsDistinct firsts
  none_apart = tt

  more_apart : (ds : List UtpPacket) (d : UtpPacket) → IsDistinct same (firsts same ds) → IsDistinct same (firsts same (ds ++ d ∷ []))
  more_apart ds d h = elim (cases_Bool (list_any (same d) (firsts same ds))) [
    | inl there ↦ subst (IsDistinct same) (sym (known same ds d there)) h
    | inr none ↦ subst (IsDistinct same) (sym (fresh same ds d none)) (IsDistinct-push laws (firsts same ds) d h none)
  ]

  pub distinct : (ds : List UtpPacket) → IsDistinct same (firsts same ds)
  distinct ds = by_last (λ l. IsDistinct same (firsts same l)) more_apart none_apart ds

-- ---- while there is room, each one is kept

pub length_push : (ds : List UtpPacket) (d : UtpPacket) → length (ds ++ d ∷ []) ≡ length ds + 1
length_push [] d = refl
length_push (x ∷ ds) d = omega (arith, length_push ds d)

pub no_fewer : (same : UtpPacket → UtpPacket → Bool) (ds : List UtpPacket) (d : UtpPacket) → length (firsts same ds) ≤ length (firsts same (ds ++ d ∷ []))
no_fewer same ds d = elim (cases_Bool (list_any (same d) (firsts same ds))) [
  | inl there ↦ rw (known same ds d there) (omega arith)
  | inr none ↦ rw (fresh same ds d none) (omega (arith, length_push (firsts same ds) d))
]

room_if : (a b : Bool) → (a || b) ≡ false → b ≡ false
room_if true b h = cc
room_if false b h = h

less : (n : ℕ) → n < 65536 → nat_lt n 65536 ≡ true
less n h = grind (arith, nat_tests, h)

or_true : (b : Bool) → (b || true) ≡ true
or_true true = refl
or_true false = refl

pub room_left : (ks : List UtpPacket) (d : UtpPacket) → length (firsts same_id ks) < 65536 → has_room ks d ≡ true
unfolding has_room
room_left ks d h = ap (λ t. list_any (same_id d) ks || t) (less (length (firsts same_id ks)) h) ∙ or_true (list_any (same_id d) ks)

abbrev AllKept : List UtpPacket → Type 0
AllKept ds = length (firsts same_id (kept ds)) < 65536 → kept ds ≡ ds

none_kept : AllKept []
unfolding kept
none_kept h = refl

more_kept : (ds : List UtpPacket) (d : UtpPacket) → AllKept ds → AllKept (ds ++ d ∷ [])
more_kept ds d h few = elim (cases_Bool (has_room (kept ds) d)) [
  | inl room ↦
      let few' : length (firsts same_id (kept ds ++ d ∷ [])) < 65536 = rw (sym (kept_more ds d room)) few in
      let before : length (firsts same_id (kept ds)) < 65536 = omega (arith, no_fewer same_id (kept ds) d, few') in
      kept_more ds d room ∙ ap (λ l. l ++ d ∷ []) (h before)
  | inr full ↦
      let before : length (firsts same_id (kept ds)) < 65536 = rw (sym (kept_same ds d full)) few in
      let room : has_room (kept ds) d ≡ true = room_left (kept ds) d before in
      cc
]

pub all_kept : (ds : List UtpPacket) → AllKept ds
all_kept ds = by_last AllKept more_kept none_kept ds

-- ---- the ids of those with some ends

moved : (b : Bool) (x : UtpPacket) (xs ys : List UtpPacket) → cond b (x ∷ xs ++ ys) (xs ++ ys) ≡ cond b (x ∷ xs) xs ++ ys
moved true x xs ys = refl
moved false x xs ys = refl

pub filter_push : (p : UtpPacket → Bool) (ds : List UtpPacket) (d : UtpPacket) → filter p (ds ++ d ∷ []) ≡ filter p ds ++ (if p d then d ∷ [] else [])
filter_push p [] d = refl
filter_push p (x ∷ ds) d = ap (λ l. cond (p x) (x ∷ l) l) (filter_push p ds d) ∙ moved (p x) x (filter p ds) (if p d then d ∷ [] else [])

map_push : (xs : List UtpPacket) (d : UtpPacket) → map (λ e. e.id) (xs ++ d ∷ []) ≡ map (λ e. e.id) xs ++ d.id ∷ []
map_push [] d = refl
map_push (x ∷ xs) d = ap (λ l. x.id ∷ l) (map_push xs d)

pub between_with : (f : UtpPacket) (ds : List UtpPacket) (d : UtpPacket) → same_ends f d ≡ true → between f (ds ++ d ∷ []) ≡ between f ds ++ d ∷ []
unfolding between
between_with f ds d h = filter_push (same_ends f) ds d ∙ ap (λ t. filter (same_ends f) ds ++ (if t then d ∷ [] else [])) h

pub between_without : (f : UtpPacket) (ds : List UtpPacket) (d : UtpPacket) → same_ends f d ≡ false → between f (ds ++ d ∷ []) ≡ between f ds
unfolding between
between_without f ds d h =
    let own = filter (same_ends f) ds in
    filter_push (same_ends f) ds d ∙ ap (λ t. own ++ (if t then d ∷ [] else [])) h ∙ append_none own

pub ids_with : (f : UtpPacket) (ds : List UtpPacket) (d : UtpPacket) → same_ends f d ≡ true → ids_of f (ds ++ d ∷ []) ≡ ids_of f ds ++ d.id ∷ []
unfolding ids_of
ids_with f ds d h = ap (map (λ e. e.id)) (between_with f ds d h) ∙ map_push (between f ds) d

pub ids_without : (f : UtpPacket) (ds : List UtpPacket) (d : UtpPacket) → same_ends f d ≡ false → ids_of f (ds ++ d ∷ []) ≡ ids_of f ds
unfolding ids_of
ids_without f ds d h = ap (map (λ e. e.id)) (between_without f ds d h)

-- those of a flow have an id exactly if one of the datagrams with the ends and the id of this one was there
id_among : (b : Bool) (i : ℕ) (x : UtpPacket) (xs : List UtpPacket)
    → list_any (λ j. i == j) (map (λ e. e.id) (cond b (x ∷ xs) xs)) ≡ ((b && (i == x.id)) || list_any (λ j. i == j) (map (λ e. e.id) xs))
id_among true i x xs = refl
id_among false i x xs = refl

pub same_ids : (f d : UtpPacket) (ds : List UtpPacket) → same_ends d f ≡ true → list_any (λ j. d.id == j) (ids_of f ds) ≡ list_any (same_id d) ds
unfolding ids_of between same_id
same_ids f d [] h = refl
same_ids f d (x ∷ ds) h =
    id_among (same_ends f x) d.id x (filter (same_ends f) ds)
    ∙ ap (λ t. (t && (d.id == x.id)) || list_any (λ j. d.id == j) (ids_of f ds)) (sym (ends_laws.congr d f x h))
    ∙ ap (λ t. same_id d x || t) (same_ids f d ds h)

pub none_between : (f : UtpPacket) (ds : List UtpPacket) → list_any (same_ends f) ds ≡ false → between f ds ≡ []
unfolding between
none_between f [] h = refl
none_between f (x ∷ ds) h = elim (cases_Bool (same_ends f x)) [
  | inl t ↦ let no : true ≡ false = rw t at h in cc
  | inr e ↦ rw e (none_between f ds (rw e at h))
]

pub no_ids : (f : UtpPacket) (ds : List UtpPacket) → list_any (same_ends f) ds ≡ false → ids_of f ds ≡ []
unfolding ids_of
no_ids f ds h = ap (map (λ e. e.id)) (none_between f ds h)

-- not more are kept than came
abbrev AtMost : UtpPacket → List UtpPacket → Type 0
AtMost f ds = length (ids_of f (kept ds)) ≤ length (ids_of f ds)

none_at_most : (f : UtpPacket) → AtMost f []
unfolding kept
none_at_most f = omega arith

pub length_ids : (xs : List ℕ) (i : ℕ) → length (xs ++ i ∷ []) ≡ length xs + 1
length_ids [] i = refl
length_ids (x ∷ xs) i = omega (arith, length_ids xs i)

ids_step : (f : UtpPacket) (ds : List UtpPacket) (d : UtpPacket) → same_ends f d ≡ true → length (ids_of f (ds ++ d ∷ [])) ≡ length (ids_of f ds) + 1
ids_step f ds d h = ap length (ids_with f ds d h) ∙ length_ids (ids_of f ds) d.id

more_at_most : (f : UtpPacket) (ds : List UtpPacket) (d : UtpPacket) → AtMost f ds → AtMost f (ds ++ d ∷ [])
more_at_most f ds d h = elim (cases_Bool (same_ends f d)) [
  | inl own ↦ elim (cases_Bool (has_room (kept ds) d)) [
    | inl room ↦ rw (kept_more ds d room) (omega (arith, h, ids_step f (kept ds) d own, ids_step f ds d own))
    | inr full ↦ rw (kept_same ds d full) (omega (arith, h, ids_step f ds d own))
  ]
  | inr other ↦ elim (cases_Bool (has_room (kept ds) d)) [
    | inl room ↦ rw (kept_more ds d room, ids_without f (kept ds) d other, ids_without f ds d other) h
    | inr full ↦ rw (kept_same ds d full, ids_without f ds d other) h
  ]
]

pub at_most : (f : UtpPacket) (ds : List UtpPacket) → AtMost f ds
at_most f ds = by_last (AtMost f) (more_at_most f) (none_at_most f) ds
