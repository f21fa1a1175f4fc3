-- The laws of the flows.
use Rattle.std.proofs.Common.{◌≡◌, ℕ, ◌+◌, ◌-◌, ◌^◌, ◌≤◌, Bool, true, false, not, ◌||◌, nat_lt, List, [], ◌∷◌, ◌++◌, length, map, min}
use Rattle.std.proofs.Common.{refl, sym, ◌∙◌, ap, subst, arith, inl, inr}
use Rattle.std.specs.Prelude.{count_by}
use Rattle.std.specs.List.{filter, list_any}
use Rattle.std.proofs.lemmas.Bool.{cases_Bool}
use Rattle.std.proofs.lemmas.Bool.Decides.{nat_tests}
use Rattle.bt_packet.specs.Utp.{UtpPacket}
use Rattle.bt_utp.specs.declared.flow.Counted.{Counted}
use Rattle.bt_utp.specs.Near.{is_near, count_near}
use Rattle.bt_utp.specs.Flows.{is_from, same_ends, same_id, firsts, has_room, kept, between, ids_of, last_reason, source_reason, target_reason, flow, flows}
use Rattle.bt_utp.specs.Laws.{whole_flow, AllAreCounted, NoneIsTooMuch, LeastIsTold}
use Rattle.bt_utp.proofs.Counting.{fewer, pushed}
use Rattle.bt_utp.proofs.Ends.{id_laws}
use Rattle.bt_utp.proofs.Firsts.{by_last, kept_more, kept_same, fresh, any_first, no_fewer, room_left, length_push, at_most, length_ids}
use Rattle.bt_utp.proofs.Firsts.{between_with, between_without, ids_with, ids_without}

-- ---- up to 65,536 ids

abbrev IsWhole : List UtpPacket → Type 0
IsWhole ds = length (firsts same_id ds) ≤ 65536 → kept ds ≡ ds

none_whole : IsWhole []
unfolding kept
none_whole h = refl

has_id : (ds : List UtpPacket) (d : UtpPacket) → list_any (same_id d) ds ≡ true → has_room ds d ≡ true
unfolding has_room
has_id ds d h = ap (λ t. t || nat_lt (length (firsts same_id ds)) 65536) h

room_for : (ds : List UtpPacket) (d : UtpPacket) → length (firsts same_id (ds ++ d ∷ [])) ≤ 65536 → has_room ds d ≡ true
room_for ds d few = elim (cases_Bool (list_any (same_id d) ds)) [
  | inl there ↦ has_id ds d there
  | inr none ↦
      let longer : length (firsts same_id (ds ++ d ∷ [])) ≡ length (firsts same_id ds) + 1 =
      ap length (fresh same_id ds d (any_first id_laws d ds ∙ none)) ∙ length_push (firsts same_id ds) d in
      room_left ds d (omega (arith, longer, few))
]

more_whole : (ds : List UtpPacket) (d : UtpPacket) → IsWhole ds → IsWhole (ds ++ d ∷ [])
more_whole ds d h few =
    let whole : kept ds ≡ ds = h (omega (arith, no_fewer same_id ds d, few)) in
    let room : has_room (kept ds) d ≡ true = subst (λ l. has_room l d ≡ true) (sym whole) (room_for ds d few) in
    kept_more ds d room ∙ ap (λ l. l ++ d ∷ []) whole

is_whole : (ds : List UtpPacket) → IsWhole ds
is_whole ds = by_last IsWhole more_whole none_whole ds

no_less : (n : ℕ) → nat_lt n n ≡ false
no_less n = grind (arith, nat_tests)

-- what is said of the same datagrams
module _ (f : UtpPacket) (a b : List UtpPacket) (same : between f a ≡ between f b) where
  same_ids : ids_of f a ≡ ids_of f b
  unfolding ids_of
  same_ids = ap (map (λ d. d.id)) same

  same_source : source_reason f a ≡ source_reason f b
  unfolding source_reason
  same_source = ap (λ l. last_reason (filter (is_from f.source f.target) l)) same

  same_target : target_reason f a ≡ target_reason f b
  unfolding target_reason
  same_target = ap (λ l. last_reason (filter (λ d. not (is_from f.source f.target d)) l)) same

whole_one : (ds : List UtpPacket) (f : UtpPacket) → between f (kept ds) ≡ between f ds → flow ds f ≡ whole_flow ds f
unfolding flow whole_flow
whole_one ds f e =
    rw (same_ids f (kept ds) ds e, same_source f (kept ds) ds e, same_target f (kept ds) ds e, no_less (length (ids_of f ds))) refl

map_alike : (g h : UtpPacket → Counted) (fs : List UtpPacket) → ((f : UtpPacket) → g f ≡ h f) → map g fs ≡ map h fs
map_alike g h [] e = refl
map_alike g h (f ∷ fs) e = rw (e f, map_alike g h fs e) refl

pub all_counted : AllAreCounted
unfolding flows
all_counted ds few =
    let whole = is_whole ds few in
    map_alike (flow ds) (whole_flow ds) (firsts same_ends (kept ds)) (λ f. whole_one ds f (ap (between f) whole))
    ∙ ap (λ l. map (whole_flow ds) (firsts same_ends l)) whole

-- ---- not more than came

abbrev IsIn : List ℕ → List ℕ → Type 0
IsIn a b = (p : ℕ → Bool) → count_by p a ≤ count_by p b

more_in : (a b : List ℕ) (k : ℕ) → IsIn a b → IsIn (a ++ k ∷ []) (b ++ k ∷ [])
more_in a b k h p = omega (arith, pushed p a k, pushed p b k, h p)

longer_in : (a b : List ℕ) (k : ℕ) → IsIn a b → IsIn a (b ++ k ∷ [])
longer_in a b k h p = omega (arith, pushed p b k, h p)

more_than : (n m : ℕ) → n ≤ m → nat_lt 1 n ≡ true → nat_lt 1 m ≡ true
more_than n m h e = grind (arith, nat_tests, h, e)

near_in : (a b : List ℕ) → IsIn a b → count_near a ≤ count_near b
unfolding count_near
near_in a b h =
    let among : List ℕ → ℕ → ℕ = λ l k. count_by (is_near k) l in
    let first = fewer (λ k. nat_lt 1 (among a k)) (λ k. nat_lt 1 (among b k)) (λ k e. more_than (among a k) (among b k) (h (is_near k)) e) a in
    omega (arith, first, h (λ k. nat_lt 1 (count_by (is_near k) b)))

module _ (f : UtpPacket) where
  abbrev AreIn : List UtpPacket → Type 0
  AreIn ds = IsIn (ids_of f (kept ds)) (ids_of f ds)

  none_in : AreIn []
  unfolding kept
  none_in p = omega arith

  step_in : (ds : List UtpPacket) (d : UtpPacket) → AreIn ds → AreIn (ds ++ d ∷ [])
  step_in ds d h = elim (cases_Bool (same_ends f d)) [
    | inl own ↦ elim (cases_Bool (has_room (kept ds) d)) [
      | inl room ↦ rw (kept_more ds d room, ids_with f (kept ds) d own, ids_with f ds d own) (more_in (ids_of f (kept ds)) (ids_of f ds) d.id h)
      | inr full ↦ rw (kept_same ds d full, ids_with f ds d own) (longer_in (ids_of f (kept ds)) (ids_of f ds) d.id h)
    ]
    | inr other ↦ elim (cases_Bool (has_room (kept ds) d)) [
      | inl room ↦ rw (kept_more ds d room, ids_without f (kept ds) d other, ids_without f ds d other) h
      | inr full ↦ rw (kept_same ds d full, ids_without f ds d other) h
    ]
  ]

  are_in : (ds : List UtpPacket) → AreIn ds
  are_in ds = by_last AreIn step_in none_in ds

least_of : (n m k : ℕ) → n ≤ m → min n k ≤ m
least_of n m k h = grind (arith, h)

pub none_too_much : NoneIsTooMuch
unfolding flow
none_too_much ds f =
    let fewer_near = near_in (ids_of f (kept ds)) (ids_of f ds) (are_in f ds) in
    least_of (count_near (ids_of f (kept ds))) (count_near (ids_of f ds)) (2 ^ 64 - 1) fewer_near

-- ---- none was left out

module _ (f : UtpPacket) where
  abbrev AreSame : List UtpPacket → Type 0
  AreSame ds = length (ids_of f ds) ≤ length (ids_of f (kept ds)) → between f (kept ds) ≡ between f ds

  none_same : AreSame []
  unfolding kept
  none_same h = refl

  step_same : (ds : List UtpPacket) (d : UtpPacket) → AreSame ds → AreSame (ds ++ d ∷ [])
  step_same ds d h few = elim (cases_Bool (same_ends f d)) [
    | inl own ↦
        let after = ap length (ids_with f ds d own) ∙ length_ids (ids_of f ds) d.id in
        elim (cases_Bool (has_room (kept ds) d)) [
          | inl room ↦
              let ids = ap (ids_of f) (kept_more ds d room) ∙ ids_with f (kept ds) d own in
              let long = ap length ids ∙ length_ids (ids_of f (kept ds)) d.id in
              ap (between f) (kept_more ds d room) ∙ between_with f (kept ds) d own
              ∙ ap (λ l. l ++ d ∷ []) (h (omega (arith, few, after, long))) ∙ sym (between_with f ds d own)
          | inr full ↦
              let long = ap (λ l. length (ids_of f l)) (kept_same ds d full) in
              absurd (omega (arith, few, after, long, at_most f ds))
        ]
    | inr other ↦
        let after = ap length (ids_without f ds d other) in
        elim (cases_Bool (has_room (kept ds) d)) [
          | inl room ↦
              let ids = ap length (ap (ids_of f) (kept_more ds d room) ∙ ids_without f (kept ds) d other) in
              ap (between f) (kept_more ds d room) ∙ between_without f (kept ds) d other
              ∙ h (omega (arith, few, after, ids)) ∙ sym (between_without f ds d other)
          | inr full ↦
              let ids = ap (λ l. length (ids_of f l)) (kept_same ds d full) in
              ap (between f) (kept_same ds d full) ∙ h (omega (arith, few, after, ids)) ∙ sym (between_without f ds d other)
        ]
  ]

  are_same : (ds : List UtpPacket) → AreSame ds
  are_same ds = by_last AreSame step_same none_same ds

not_less : (n m : ℕ) → nat_lt n m ≡ false → m ≤ n
not_less n m h = grind (arith, nat_tests, h)

no_least : (ds : List UtpPacket) (f : UtpPacket) → (flow ds f).is_least ≡ false → nat_lt (length (ids_of f (kept ds))) (length (ids_of f ds)) ≡ false
unfolding flow
no_least ds f h = h

pub least_told : LeastIsTold
least_told ds f h = whole_one ds f (are_same f ds (not_less (length (ids_of f (kept ds))) (length (ids_of f ds)) (no_least ds f h)))
