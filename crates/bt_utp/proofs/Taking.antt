-- The flows, after one more datagram.
use Rattle.std.proofs.Common.{◌≡◌, ℕ, ◌+◌, ◌-◌, ◌^◌, ◌<◌, ◌≤◌, zero, suc, Bool, true, false, ◌&&◌, ◌||◌, not, cond, if◌then◌else◌, nat_lt, min}
use Rattle.std.proofs.Common.{List, [], ◌∷◌, ◌++◌, length, set, get_or, map, Option, Some, None, refl, sym, ◌∙◌, ap, subst, arith, inl, inr}
use Rattle.std.specs.Prelude.{◌==◌}
use Rattle.std.specs.Ordering.{is_eq}
use Rattle.std.specs.BTreeMap.{BTreeMap, get}
use Rattle.std.specs.Option.{option_map, option_or}
use Rattle.std.specs.List.{list_any, slice_get, IsDistinct, AllByRecursion}
use Rattle.std.proofs.lemmas.Bool.{cases_Bool}
use Rattle.std.proofs.lemmas.Bool.Decides.{nat_tests}
use Rattle.std.proofs.lemmas.Map.Keys.{IsDistinct-head, IsDistinct-tail, any_passes_from_place}
use Rattle.bt_packet.specs.declared.address.Address.{Address}
use Rattle.bt_packet.specs.Utp.{UtpPacket}
use Rattle.bt_utp.specs.declared.flow.Flow.{Flow}
use Rattle.bt_utp.specs.declared.flow.Counted.{Counted}
use Rattle.bt_utp.specs.declared.flows.UtpFlows.{UtpFlows}
use Rattle.bt_utp.specs.Flows.{same_address, is_from, same_ends, same_id, firsts, has_room, kept, ids_of, source_reason, target_reason, flow, flows}
use Rattle.bt_utp.specs.Near.{count_near}
use Rattle.bt_utp.specs.Ids.{AreIds}
use Rattle.std.proofs.lemmas.Option.{slice_get-get_or}
use Rattle.bt_utp.specs.States.{Notes, KeepsReasons, Takes, IsFlow, AreFlows, place, order, AreCounted, IsPlace}
use Rattle.bt_utp.proofs.Ends.{ends_laws, id_laws, same_is, same_symm, same_self, from_self, key_test, address_symm, id_ends, from_ends, back_ends, neither_way}
use Rattle.bt_utp.proofs.Firsts.{kept_more, kept_same, known, fresh, any_first, distinct, all_kept, room_left}
use Rattle.bt_utp.proofs.Reasons.{source_away, target_away, source_noted, target_noted, source_begun, target_begun}
use Rattle.bt_utp.proofs.Firsts.{ids_with, ids_without, same_ids, none_between, no_ids, at_most, length_push, length_ids}

-- ---- places

shifted : (o : Option ℕ) (i : ℕ) → option_map (λ k. k + 1) o ≡ Some i → (k : ℕ) × (o ≡ Some k) × (i ≡ k + 1)
shifted None i h = cc
shifted (Some k) i h = (k, refl, cc)

pub place_found : (p : UtpPacket → Bool) (fs : List UtpPacket) (i : ℕ) → place p fs ≡ Some i → (f : UtpPacket) × (slice_get fs i ≡ Some f) × (p f ≡ true)
unfolding place
place_found p [] i h = cc
place_found p (x ∷ fs) i h = elim (cases_Bool (p x)) [
  | inl t ↦
      let e : Some 0 ≡ Some i = rw t at h in
      let z : 0 ≡ i = cc in
      subst (λ n. (f : UtpPacket) × (slice_get (x ∷ fs) n ≡ Some f) × (p f ≡ true)) z (x, refl, t)
  | inr f ↦
      let k = shifted (place p fs) i (rw f at h) in
      let there = place_found p fs k.0 k.1 in
      let next : suc k.0 ≡ i = omega (arith, k.2) in
      subst (λ n. (f : UtpPacket) × (slice_get (x ∷ fs) n ≡ Some f) × (p f ≡ true)) next there
]

no_place : (o : Option ℕ) → option_map (λ k. k + 1) o ≡ None → o ≡ None
no_place None h = refl
no_place (Some k) h = cc

pub place_missed : (p : UtpPacket → Bool) (fs : List UtpPacket) → place p fs ≡ None → list_any p fs ≡ false
unfolding place
place_missed p [] h = refl
place_missed p (x ∷ fs) h = elim (cases_Bool (p x)) [
  | inl t ↦ let e : Some 0 ≡ None = rw t at h in cc
  | inr f ↦ rw f (place_missed p fs (no_place (place p fs) (rw f at h)))
]

pub none_passes : (p : UtpPacket → Bool) (fs : List UtpPacket) → list_any p fs ≡ false → place p fs ≡ None
unfolding place
none_passes p [] h = refl
none_passes p (x ∷ fs) h = elim (cases_Bool (p x)) [
  | inl t ↦ let e : true ≡ false = rw t at h in cc
  | inr f ↦ rw f (ap (option_map (λ k. k + 1)) (none_passes p fs (rw f at h)))
]

later_or : (o : Option ℕ) (b : Bool) (n : ℕ)
    → option_map (λ k. k + 1) (option_or o (if b then Some n else None)) ≡ option_or (option_map (λ k. k + 1) o) (if b then Some (suc n) else None)
later_or (Some k) b n = refl
later_or None true n = ap Some (omega arith)
later_or None false n = refl

pub place_push : (p : UtpPacket → Bool) (fs : List UtpPacket) (d : UtpPacket)
    → place p (fs ++ d ∷ []) ≡ option_or (place p fs) (if p d then Some (length fs) else None)
unfolding place
place_push p [] d = refl
place_push p (x ∷ fs) d = elim (cases_Bool (p x)) [
  | inl t ↦ rw t refl
  | inr f ↦ rw f (ap (option_map (λ k. k + 1)) (place_push p fs d) ∙ later_or (place p fs) (p d) (length fs))
]

second : (a b : Bool) → (a || b) ≡ false → b ≡ false
second true b h = cc
second false b h = h

first : (a b : Bool) → (a || b) ≡ false → a ≡ false
first true b h = cc
first false b h = refl

-- fewer pass what is stricter
pub none_stricter : (p q : UtpPacket → Bool) → ((x : UtpPacket) → q x ≡ true → p x ≡ true) → (fs : List UtpPacket)
    → list_any p fs ≡ false → list_any q fs ≡ false
none_stricter p q h [] e = refl
none_stricter p q h (x ∷ fs) e = elim (cases_Bool (q x)) [
  | inl t ↦ let no : true ≡ false = (rw (h x t) at e) in cc
  | inr f ↦ rw f (none_stricter p q h fs (second (p x) (list_any p fs) e))
]

-- ---- flows

other_flow : (ds : List UtpPacket) (d f : UtpPacket) (w : Flow) → same_ends d f ≡ false → IsFlow ds f w → IsFlow (ds ++ d ∷ []) f w
other_flow ds d f w h is =
    let away : same_ends f d ≡ false = same_symm f d ∙ h in
    let counted : ids_of f (kept (ds ++ d ∷ [])) ≡ ids_of f (kept ds) = elim (cases_Bool (has_room (kept ds) d)) [
      | inl room ↦ ap (ids_of f) (kept_more ds d room) ∙ ids_without f (kept ds) d away
      | inr full ↦ ap (ids_of f) (kept_same ds d full)
    ] in
    record {
      source = is.source;
      target = is.target;
      ids = subst (λ l. AreIds l w.ids) (sym counted) is.ids;
      is_least = is.is_least ∙ ap (λ l. nat_lt (length l) (length (ids_of f ds))) (sym counted)
          ∙ ap (λ l. nat_lt (length (ids_of f (kept (ds ++ d ∷ [])))) (length l)) (sym (ids_without f ds d away));
      source_reason = is.source_reason ∙ source_away f ds d away;
      target_reason = is.target_reason ∙ target_away f ds d away;
    }

pub others : (ds : List UtpPacket) (d : UtpPacket) (fs : List UtpPacket) (ws : List Flow) → list_any (same_ends d) fs ≡ false
    → AreFlows ds fs ws → AreFlows (ds ++ d ∷ []) fs ws
others ds d [] [] h are = tt
others ds d [] (w ∷ ws) h are = are
others ds d (f ∷ fs) [] h are = are
others ds d (f ∷ fs) (w ∷ ws) h are =
    let away = first (same_ends d f) (list_any (same_ends d) fs) h in
    let more = second (same_ends d f) (list_any (same_ends d) fs) h in
    (other_flow ds d f w away are.0, others ds d fs ws more are.1)

all_apart : (f d : UtpPacket) (fs : List UtpPacket) → same_ends d f ≡ true → AllByRecursion (λ y. same_ends f y ≡ false) fs → list_any (same_ends d) fs ≡ false
all_apart f d [] h a = refl
all_apart f d (x ∷ fs) h a = rw (ends_laws.congr d f x h ∙ a.0) (all_apart f d fs h a.1)

passes_all : (P : UtpPacket → Type 0) (fs : List UtpPacket) (i : ℕ) (f : UtpPacket) → slice_get fs i ≡ Some f → AllByRecursion P fs → P f
passes_all P [] i f at a = cc
passes_all P (x ∷ fs) zero f at a = let e : x ≡ f = cc in subst P e a.0
passes_all P (x ∷ fs) (suc i) f at a = passes_all P fs i f at a.1

pub changed : (ds : List UtpPacket) (d : UtpPacket) (fs : List UtpPacket) (ws : List Flow) (i : ℕ) (f : UtpPacket) (w' : Flow)
    → IsDistinct same_ends fs → slice_get fs i ≡ Some f → same_ends d f ≡ true
    → AreFlows ds fs ws → IsFlow (ds ++ d ∷ []) f w' → AreFlows (ds ++ d ∷ []) fs (set ws i w')
changed ds d [] ws i f w' apart at h are is = cc
changed ds d (x ∷ fs) [] i f w' apart at h are is = absurd are
changed ds d (x ∷ fs) (w ∷ ws) zero f w' apart at h are is =
    let e : x ≡ f = cc in
    let own : same_ends d x ≡ true = ap (same_ends d) e ∙ h in
    (subst (λ y. IsFlow (ds ++ d ∷ []) y w') (sym e) is, others ds d fs ws (all_apart x d fs own (IsDistinct-head same_ends x fs apart)) are.1)
changed ds d (x ∷ fs) (w ∷ ws) (suc i) f w' apart at h are is =
    let off : same_ends x f ≡ false = passes_all (λ y. same_ends x y ≡ false) fs i f at (IsDistinct-head same_ends x fs apart) in
    let away : same_ends d x ≡ false = ends_laws.congr d f x h ∙ same_symm f x ∙ off in
    (other_flow ds d x w away are.0, changed ds d fs ws i f w' (IsDistinct-tail same_ends x fs apart) at h are.1 is)

pub flow_push : (ds : List UtpPacket) (fs : List UtpPacket) (ws : List Flow) (f : UtpPacket) (w : Flow)
    → AreFlows ds fs ws → IsFlow ds f w → AreFlows ds (fs ++ f ∷ []) (ws ++ w ∷ [])
flow_push ds [] [] f w are is = (is, tt)
flow_push ds [] (v ∷ ws) f w are is = absurd are
flow_push ds (x ∷ fs) [] f w are is = absurd are
flow_push ds (x ∷ fs) (v ∷ ws) f w are is = (are.0, flow_push ds fs ws f w are.1 is)

pub as_many : (ds : List UtpPacket) (fs : List UtpPacket) (ws : List Flow) → AreFlows ds fs ws → length ws ≡ length fs
as_many ds [] [] are = refl
as_many ds [] (w ∷ ws) are = absurd are
as_many ds (f ∷ fs) [] are = absurd are
as_many ds (f ∷ fs) (w ∷ ws) are = omega (arith, as_many ds fs ws are.1)

pub flow_at : (ds : List UtpPacket) (fs : List UtpPacket) (ws : List Flow) (i : ℕ) (f : UtpPacket) (w : Flow)
    → AreFlows ds fs ws → slice_get fs i ≡ Some f → slice_get ws i ≡ Some w → IsFlow ds f w
flow_at ds [] ws i f w are at there = cc
flow_at ds (x ∷ fs) [] i f w are at there = absurd are
flow_at ds (x ∷ fs) (v ∷ ws) zero f w are at there =
    let e : x ≡ f = cc in
    let g : v ≡ w = cc in
    subst (λ y. IsFlow ds y w) e (subst (λ y. IsFlow ds x y) g are.0)
flow_at ds (x ∷ fs) (v ∷ ws) (suc i) f w are at there = flow_at ds fs ws i f w are.1 at there

-- ---- a datagram of a flow that is there

least_more : (n m : ℕ) → nat_lt (n + 1) (m + 1) ≡ nat_lt n m
least_more n m = grind (arith, nat_tests)

is_less : (n m : ℕ) → n ≤ m → nat_lt n (m + 1) ≡ true
is_less n m h = grind (arith, nat_tests, h)

module _ (ds : List UtpPacket) (d f : UtpPacket) (own : same_ends d f ≡ true) where
  back : same_ends f d ≡ true
  back = same_symm f d ∙ own

  taken : (w w' : Flow) → has_room (kept ds) d ≡ true → IsFlow ds f w → w'.source ≡ w.source → w'.target ≡ w.target
      → AreIds (ids_of f (kept ds) ++ d.id ∷ []) w'.ids → w'.is_least ≡ w.is_least → Notes d w w' → IsFlow (ds ++ d ∷ []) f w'
  taken w w' room is source target ids least notes =
      let more : ids_of f (kept (ds ++ d ∷ [])) ≡ ids_of f (kept ds) ++ d.id ∷ [] = ap (ids_of f) (kept_more ds d room) ∙ ids_with f (kept ds) d back in
      record {
        source = source ∙ is.source;
        target = target ∙ is.target;
        ids = subst (λ l. AreIds l w'.ids) (sym more) ids;
        is_least = least ∙ is.is_least ∙ sym (least_more (length (ids_of f (kept ds))) (length (ids_of f ds)))
            ∙ ap (λ n. nat_lt n (length (ids_of f ds) + 1)) (sym (ap length more ∙ length_ids (ids_of f (kept ds)) d.id))
            ∙ ap (nat_lt (length (ids_of f (kept (ds ++ d ∷ []))))) (sym (ap length (ids_with f ds d back) ∙ length_ids (ids_of f ds) d.id));
        source_reason = notes.source ∙ source_noted ds d f back room w is.source is.target is.source_reason;
        target_reason = notes.target ∙ target_noted ds d f back room w is.source is.target is.target_reason;
      }

  missed : (w w' : Flow) → has_room (kept ds) d ≡ false → IsFlow ds f w → w'.source ≡ w.source → w'.target ≡ w.target
      → AreIds (ids_of f (kept ds)) w'.ids → w'.is_least ≡ true → KeepsReasons w w' → IsFlow (ds ++ d ∷ []) f w'
  missed w w' full is source target ids least keeps =
      let same : ids_of f (kept (ds ++ d ∷ [])) ≡ ids_of f (kept ds) = ap (ids_of f) (kept_same ds d full) in
      record {
        source = source ∙ is.source;
        target = target ∙ is.target;
        ids = subst (λ l. AreIds l w'.ids) (sym same) ids;
        is_least = least ∙ sym (is_less (length (ids_of f (kept ds))) (length (ids_of f ds)) (at_most f ds))
            ∙ ap (λ n. nat_lt n (length (ids_of f ds) + 1)) (sym (ap length same))
            ∙ ap (nat_lt (length (ids_of f (kept (ds ++ d ∷ []))))) (sym (ap length (ids_with f ds d back) ∙ length_ids (ids_of f ds) d.id));
        source_reason = keeps.source ∙ is.source_reason ∙ ap (source_reason f) (sym (kept_same ds d full));
        target_reason = keeps.target ∙ is.target_reason ∙ ap (target_reason f) (sym (kept_same ds d full));
      }

-- whether there is room
pub room_is : (ds : List UtpPacket) (d f : UtpPacket) (n : ℕ) → same_ends d f ≡ true → n ≡ length (firsts same_id (kept ds))
    → (list_any (λ j. d.id == j) (ids_of f (kept ds)) || nat_lt n 65536) ≡ has_room (kept ds) d
unfolding has_room
room_is ds d f n own is = ap (λ t. t || nat_lt n 65536) (same_ids f d (kept ds) own) ∙ ap (λ m. list_any (same_id d) (kept ds) || nat_lt m 65536) is

takes_flow : (ds : List UtpPacket) (d f : UtpPacket) (n : ℕ) (w w' : Flow) (adds : Bool)
    → same_ends d f ≡ true → n ≡ length (firsts same_id (kept ds)) → IsFlow ds f w → Takes (ids_of f (kept ds)) d (nat_lt n 65536) w w' adds → IsFlow (ds ++ d ∷ []) f w'
takes_flow ds d f n w w' adds own is flow takes =
    let room = room_is ds d f n own is in
    elim (cases_Bool (has_room (kept ds) d)) [
      | inl t ↦ let k = takes.kept (room ∙ t) in taken ds d f own w w' t flow takes.source takes.target k.0 k.1 k.2
      | inr e ↦ let k = takes.missed (room ∙ e) in missed ds d f own w w' e flow takes.source takes.target k.0 k.1 k.2
    ]

-- how many ids there are then
ids_taken : (ds : List UtpPacket) (d : UtpPacket) → has_room (kept ds) d ≡ true
    → length (firsts same_id (kept (ds ++ d ∷ []))) ≡ length (firsts same_id (kept ds)) + (if list_any (same_id d) (kept ds) then 0 else 1)
ids_taken ds d room = ap (λ l. length (firsts same_id l)) (kept_more ds d room) ∙ elim (cases_Bool (list_any (same_id d) (kept ds))) [
  | inl there ↦ rw there (ap length (known same_id (kept ds) d (any_first id_laws d (kept ds) ∙ there)) ∙ omega arith)
  | inr none ↦ rw none (ap length (fresh same_id (kept ds) d (any_first id_laws d (kept ds) ∙ none)) ∙ length_push (firsts same_id (kept ds)) d)
]

counted_so : (any room adds : Bool) (n m : ℕ) → (any || room) ≡ true → adds ≡ not any && room → m ≡ n + (if any then 0 else 1) → (if adds then n + 1 else n) ≡ m
counted_so true room adds n m h e g = rw e (omega (arith, g))
counted_so false true adds n m h e g = rw e (sym g)
counted_so false false adds n m h e g = cc

not_counted : (any room adds : Bool) (n : ℕ) → (any || room) ≡ false → adds ≡ not any && room → (if adds then n + 1 else n) ≡ n
not_counted true room adds n h e = cc
not_counted false true adds n h e = cc
not_counted false false adds n h e = rw e refl

ids_after : (ds : List UtpPacket) (d f : UtpPacket) (n : ℕ) (w w' : Flow) (adds : Bool) → same_ends d f ≡ true → n ≡ length (firsts same_id (kept ds))
    → Takes (ids_of f (kept ds)) d (nat_lt n 65536) w w' adds → (if adds then n + 1 else n) ≡ length (firsts same_id (kept (ds ++ d ∷ [])))
ids_after ds d f n w w' adds own is takes =
    let any = same_ids f d (kept ds) own in
    let more : adds ≡ not (list_any (same_id d) (kept ds)) && nat_lt n 65536 = takes.more ∙ ap (λ t. not t && nat_lt n 65536) any in
    let room : (list_any (same_id d) (kept ds) || nat_lt n 65536) ≡ has_room (kept ds) d = ap (λ t. t || nat_lt n 65536) (sym any) ∙ room_is ds d f n own is in
    elim (cases_Bool (has_room (kept ds) d)) [
      | inl t ↦ counted_so (list_any (same_id d) (kept ds)) (nat_lt n 65536) adds n _ (room ∙ t) more
          (ids_taken ds d t ∙ ap (λ k. k + (if list_any (same_id d) (kept ds) then 0 else 1)) (sym is))
      | inr e ↦ not_counted (list_any (same_id d) (kept ds)) (nat_lt n 65536) adds n (room ∙ e) more
          ∙ is ∙ ap (λ l. length (firsts same_id l)) (sym (kept_same ds d e))
    ]

-- the first ones are as before
first_ones : (ds : List UtpPacket) (d f : UtpPacket) (i : ℕ) → slice_get (firsts same_ends (kept ds)) i ≡ Some f → same_ends d f ≡ true
    → firsts same_ends (kept (ds ++ d ∷ [])) ≡ firsts same_ends (kept ds)
first_ones ds d f i at own = elim (cases_Bool (has_room (kept ds) d)) [
  | inl room ↦
      let there = any_passes_from_place (same_ends d) (firsts same_ends (kept ds)) i f at own in
      ap (firsts same_ends) (kept_more ds d room) ∙ known same_ends (kept ds) d there
  | inr full ↦ ap (firsts same_ends) (kept_same ds d full)
]

pub goes_on : (ds : List UtpPacket) (d f : UtpPacket) (i : ℕ) (s s' : UtpFlows) (w w' : Flow) (adds : Bool) → AreCounted ds s
    → slice_get (firsts same_ends (kept ds)) i ≡ Some f → same_ends d f ≡ true → slice_get s.flows.items i ≡ Some w
    → Takes (ids_of f (kept ds)) d (nat_lt s.ids 65536) w w' adds
    → s'.flows.items ≡ set s.flows.items i w' → s'.places ≡ s.places → s'.ids ≡ (if adds then s.ids + 1 else s.ids) → AreCounted (ds ++ d ∷ []) s'
goes_on ds d f i s s' w w' adds are at own there takes items places ids =
    let fs = firsts same_ends (kept ds) in
    let same = first_ones ds d f i at own in
    let flow = takes_flow ds d f s.ids w w' adds own are.ids (flow_at ds fs s.flows.items i f w are.flows at there) takes in
    record {
      flows = subst (λ l. AreFlows (ds ++ d ∷ []) l s'.flows.items) (sym same) (subst (λ l. AreFlows (ds ++ d ∷ []) fs l) (sym items)
          (changed ds d fs s.flows.items i f w' (distinct ends_laws (kept ds)) at own are.flows flow));
      places = λ a b. ap (λ (m : BTreeMap (Address × Address) ℕ). get order m (a, b)) places ∙ are.places a b ∙ ap (place (is_from a b)) (sym same);
      ids = ids ∙ ids_after ds d f s.ids w w' adds own are.ids takes;
    }

-- ---- a datagram between other ends

none_of_id : (d : UtpPacket) (ds : List UtpPacket) → list_any (same_ends d) ds ≡ false → list_any (same_id d) ds ≡ false
none_of_id d ds h = none_stricter (same_ends d) (same_id d) (id_ends d) ds h

no_less : (n : ℕ) → nat_lt n n ≡ false
no_less n = grind (arith, nat_tests)

not_room : (n : ℕ) → 65536 ≤ n → nat_lt n 65536 ≡ false
not_room n h = grind (arith, nat_tests, h)

no_room : (ds : List UtpPacket) (d : UtpPacket) → list_any (same_ends d) (kept ds) ≡ false
    → 65536 ≤ length (firsts same_id (kept ds)) → has_room (kept ds) d ≡ false
unfolding has_room
no_room ds d none full =
    let n : ℕ = length (firsts same_id (kept ds)) in
    ap (λ t. t || nat_lt n 65536) (none_of_id d (kept ds) none) ∙ not_room n full

-- without room it isn't counted, and nothing is told of it
pub left_out : (ds : List UtpPacket) (d : UtpPacket) (s : UtpFlows) → AreCounted ds s
    → list_any (same_ends d) (firsts same_ends (kept ds)) ≡ false → 65536 ≤ s.ids → AreCounted (ds ++ d ∷ []) s
left_out ds d s are none full =
    let fs = firsts same_ends (kept ds) in
    let full' : has_room (kept ds) d ≡ false = no_room ds d (sym (any_first ends_laws d (kept ds)) ∙ none) (subst (λ n. 65536 ≤ n) are.ids full) in
    let same : firsts same_ends (kept (ds ++ d ∷ [])) ≡ fs = ap (firsts same_ends) (kept_same ds d full') in
    record {
      flows = subst (λ l. AreFlows (ds ++ d ∷ []) l s.flows.items) (sym same) (others ds d fs s.flows.items none are.flows);
      places = λ a b. are.places a b ∙ ap (place (is_from a b)) (sym same);
      ids = are.ids ∙ ap (λ l. length (firsts same_id l)) (sym (kept_same ds d full'));
    }

begun : (ds : List UtpPacket) (d : UtpPacket) (w : Flow) → list_any (same_ends d) (kept ds) ≡ false → length (firsts same_id (kept ds)) < 65536
    → w.source ≡ d.source → w.target ≡ d.target → AreIds (d.id ∷ []) w.ids → w.is_least ≡ false → w.source_reason ≡ d.reason → w.target_reason ≡ None
    → IsFlow (ds ++ d ∷ []) d w
begun ds d w none few source target ids least by_source by_target =
    let room = room_left (kept ds) d few in
    let all : kept (ds ++ d ∷ []) ≡ ds ++ d ∷ [] = kept_more ds d room ∙ ap (λ l. l ++ d ∷ []) (all_kept ds few) in
    let own : ids_of d (kept (ds ++ d ∷ [])) ≡ d.id ∷ [] =
    ap (ids_of d) (kept_more ds d room) ∙ ids_with d (kept ds) d (same_self d) ∙ ap (λ l. l ++ d.id ∷ []) (no_ids d (kept ds) none) in
    record {
      source = source;
      target = target;
      ids = subst (λ l. AreIds l w.ids) (sym own) ids;
      is_least = least ∙ sym (no_less (length (ids_of d (ds ++ d ∷ [])))) ∙ ap (λ l. nat_lt (length (ids_of d l)) (length (ids_of d (ds ++ d ∷ [])))) (sym all);
      source_reason = by_source ∙ source_begun ds d (same_self d) (from_self d) room (none_between d (kept ds) none);
      target_reason = by_target ∙ target_begun ds d (same_self d) (from_self d) room (none_between d (kept ds) none);
    }

-- the place of a flow that begins
and_true : (a b : Bool) → (a && b) ≡ true → (a ≡ true) × (b ≡ true)
and_true true true h = (refl, refl)
and_true true false h = cc
and_true false b h = cc

none_added : (o : Option ℕ) → o ≡ option_or o None
none_added None = refl
none_added (Some k) = refl

placed : (fs : List UtpPacket) (d : UtpPacket) (n : ℕ) (a b : Address) → list_any (same_ends d) fs ≡ false → n ≡ length fs
    → cond (is_eq (order (d.source, d.target) (a, b))) (Some n) (place (is_from a b) fs) ≡ place (is_from a b) (fs ++ d ∷ [])
placed fs d n a b none is =
    let test : is_eq (order (d.source, d.target) (a, b)) ≡ is_from a b d =
    key_test d.source d.target a b
    ∙ ap (λ t. t && same_address d.target b) (address_symm d.source a)
    ∙ ap (λ t. same_address a d.source && t) (address_symm d.target b) in
    ap (λ t. cond t (Some n) (place (is_from a b) fs)) test
    ∙ elim (cases_Bool (is_from a b d)) [
      | inl t ↦
          let e = and_true (same_address a d.source) (same_address b d.target) t in
          let ends = from_ends a b d (same_is a d.source e.0) (same_is b d.target e.1) in
          let missed : place (is_from a b) fs ≡ None = none_passes (is_from a b) fs (none_stricter (same_ends d) (is_from a b) ends fs none) in
          let pushed = place_push (is_from a b) fs d ∙ ap (λ o. option_or o (if is_from a b d then Some (length fs) else None)) missed in
          rw t (ap Some is ∙ sym (pushed ∙ ap (λ t. if t then Some (length fs) else None) t))
      | inr f ↦
          let pushed = place_push (is_from a b) fs d ∙ ap (λ t. option_or (place (is_from a b) fs) (if t then Some (length fs) else None)) f in
          rw f (none_added (place (is_from a b) fs) ∙ sym pushed)
    ]

pub begins : (ds : List UtpPacket) (d : UtpPacket) (s s' : UtpFlows) (w : Flow)
    → AreCounted ds s → list_any (same_ends d) (firsts same_ends (kept ds)) ≡ false → s.ids < 65536
    → w.source ≡ d.source → w.target ≡ d.target → AreIds (d.id ∷ []) w.ids → w.is_least ≡ false → w.source_reason ≡ d.reason → w.target_reason ≡ None
    → s'.flows.items ≡ s.flows.items ++ w ∷ []
    → ((a b : Address) → get order s'.places (a, b)
    ≡ cond (is_eq (order (d.source, d.target) (a, b))) (Some (length s.flows.items)) (get order s.places (a, b)))
    → s'.ids ≡ s.ids + 1 → AreCounted (ds ++ d ∷ []) s'
begins ds d s s' w are none few source target ids least by_source by_target items places more =
    let fs = firsts same_ends (kept ds) in
    let none' : list_any (same_ends d) (kept ds) ≡ false = sym (any_first ends_laws d (kept ds)) ∙ none in
    let few' : length (firsts same_id (kept ds)) < 65536 = subst (λ n. n < 65536) are.ids few in
    let room = room_left (kept ds) d few' in
    let same : firsts same_ends (kept (ds ++ d ∷ [])) ≡ fs ++ d ∷ [] = ap (firsts same_ends) (kept_more ds d room) ∙ fresh same_ends (kept ds) d none in
    let flow = begun ds d w none' few' source target ids least by_source by_target in
    record {
      flows = subst (λ l. AreFlows (ds ++ d ∷ []) l s'.flows.items) (sym same) (subst (AreFlows (ds ++ d ∷ []) (fs ++ d ∷ [])) (sym items)
          (flow_push (ds ++ d ∷ []) fs s.flows.items d w (others ds d fs s.flows.items none are.flows) flow));
      places = λ a b.
          places a b ∙ ap (cond (is_eq (order (d.source, d.target) (a, b))) (Some (length s.flows.items))) (are.places a b)
          ∙ placed fs d (length s.flows.items) a b none (as_many ds fs s.flows.items are.flows) ∙ ap (place (is_from a b)) (sym same);
      ids = more ∙ ap (λ n. n + 1) are.ids
          ∙ sym (ids_taken ds d room ∙ ap (λ t. length (firsts same_id (kept ds)) + (if t then 0 else 1)) (none_of_id d (kept ds) none'));
    }

-- the place of a datagram's flow, whose first one came the other way, or there is none
pub found_back : (fs : List UtpPacket) (d : UtpPacket) (o : Option ℕ)
    → list_any (is_from d.source d.target) fs ≡ false → place (is_from d.target d.source) fs ≡ o → IsPlace fs d o
found_back fs d None missed is = neither_way d fs missed (place_missed (is_from d.target d.source) fs is)
found_back fs d (Some i) missed is = let there = place_found (is_from d.target d.source) fs i is in (there.0, there.1, back_ends d there.0 there.2)

-- a flow that stays as it was
pub unchanged : (ds fs : List UtpPacket) (ws : List Flow) (i : ℕ) (w w' : Flow)
    → slice_get ws i ≡ Some w → ((f : UtpPacket) → IsFlow ds f w → IsFlow ds f w') → AreFlows ds fs ws
    → AreFlows ds fs (set ws i w')
unchanged ds [] [] i w w' at h are = are
unchanged ds [] (v ∷ ws) i w w' at h are = absurd are
unchanged ds (f ∷ fs) [] i w w' at h are = absurd are
unchanged ds (f ∷ fs) (v ∷ ws) zero w w' at h are = let e : v ≡ w = cc in (h f (subst (IsFlow ds f) e are.0), are.1)
unchanged ds (f ∷ fs) (v ∷ ws) (suc i) w w' at h are = (are.0, unchanged ds fs ws i w w' at h are.1)

length_map : (g : UtpPacket → Counted) (fs : List UtpPacket) → length (map g fs) ≡ length fs
length_map g [] = refl
length_map g (f ∷ fs) = omega (arith, length_map g fs)

pub flows_are : (ds : List UtpPacket) (ws : List Flow) → AreFlows ds (firsts same_ends (kept ds)) ws → length ws ≡ length (flows ds)
unfolding flows
flows_are ds ws are = as_many ds (firsts same_ends (kept ds)) ws are ∙ sym (length_map (flow ds) (firsts same_ends (kept ds)))

pub within : (ds fs : List UtpPacket) (ws : List Flow) (i : ℕ) (f : UtpPacket) → AreFlows ds fs ws → slice_get fs i ≡ Some f → i < length ws
within ds [] ws i f are at = cc
within ds (x ∷ fs) [] i f are at = absurd are
within ds (x ∷ fs) (w ∷ ws) zero f are at = omega arith
within ds (x ∷ fs) (w ∷ ws) (suc i) f are at = omega (arith, within ds fs ws i f are.1 at)

past_end : {X : Type 0} → (xs : List X) (i : ℕ) → length xs ≤ i → None ≡ slice_get xs i
past_end [] i h = refl
past_end (x ∷ xs) zero h = absurd (omega (arith, h))
past_end (x ∷ xs) (suc i) h = past_end xs i (omega (arith, h))

pub told_past : (ds : List UtpPacket) (ws : List Flow) (i : ℕ) → AreFlows ds (firsts same_ends (kept ds)) ws → length ws ≤ i → None ≡ slice_get (flows ds) i
told_past ds ws i are h = past_end (flows ds) i (subst (λ n. n ≤ i) (flows_are ds ws are) h)

-- what is told of a flow, by its state
abbrev pub Tells : Flow → Counted → Type 0
Tells w told = (ids : List ℕ) → AreIds ids w.ids
    → told ≡ record {
      source = w.source;
      target = w.target;
      count = min (count_near ids) (2 ^ 64 - 1);
      is_least = w.is_least;
      source_reason = w.source_reason;
      target_reason = w.target_reason;
    }

flow_is : (ds : List UtpPacket) (f : UtpPacket) (w : Flow) (told : Counted) → IsFlow ds f w → Tells w told → told ≡ flow ds f
unfolding flow
flow_is ds f w told is tells = tells (ids_of f (kept ds)) is.ids ∙ rw (is.source, is.target, is.is_least, is.source_reason, is.target_reason) refl

told_there : (ds fs : List UtpPacket) (ws : List Flow) (i : ℕ) (w : Flow) (told : Counted) → AreFlows ds fs ws → slice_get ws i ≡ Some w
    → Tells w told → Some told ≡ slice_get (map (flow ds) fs) i
told_there ds [] [] i w told are at tells = cc
told_there ds [] (v ∷ ws) i w told are at tells = absurd are
told_there ds (f ∷ fs) [] i w told are at tells = absurd are
told_there ds (f ∷ fs) (v ∷ ws) zero w told are at tells = let e : v ≡ w = cc in ap Some (flow_is ds f w told (subst (IsFlow ds f) e are.0) tells)
told_there ds (f ∷ fs) (v ∷ ws) (suc i) w told are at tells = told_there ds fs ws i w told are.1 at tells

pub told_at : (ds : List UtpPacket) (ws : List Flow) (i : ℕ) (w : Flow) (told : Counted)
    → AreFlows ds (firsts same_ends (kept ds)) ws → i < length ws → ((v : Flow) → w ≡ get_or ws i v)
    → Tells w told → Some told ≡ slice_get (flows ds) i
unfolding flows
told_at ds ws i w told are h at tells = told_there ds (firsts same_ends (kept ds)) ws i w told are (slice_get-get_or ws i w h ∙ ap Some (sym (at w))) tells

-- the same by what the code reads of the flow
pub goes_on_at : (ds : List UtpPacket) (d : UtpPacket) (i : ℕ) (s s' : UtpFlows) (w w' : Flow) (adds : Bool)
    → AreCounted ds s → IsPlace (firsts same_ends (kept ds)) d (Some i)
    → i < length s.flows.items → ((v : Flow) → w ≡ get_or s.flows.items i v)
    → ((ids : List ℕ) → AreIds ids w.ids → Takes ids d (nat_lt s.ids 65536) w w' adds)
    → s'.flows.items ≡ set s.flows.items i w' → s'.places ≡ s.places → s'.ids ≡ (if adds then s.ids + 1 else s.ids) → AreCounted (ds ++ d ∷ []) s'
goes_on_at ds d i s s' w w' adds are there h at takes items places ids =
    let f = there.0 in
    let own : slice_get s.flows.items i ≡ Some w = slice_get-get_or s.flows.items i w h ∙ ap Some (sym (at w)) in
    let is = flow_at ds (firsts same_ends (kept ds)) s.flows.items i f w are.flows there.1 own in
    goes_on ds d f i s s' w w' adds are there.1 there.2 own (takes (ids_of f (kept ds)) is.ids) items places ids

-- out of memory
pub stays : (ds : List UtpPacket) (i : ℕ) (s s' : UtpFlows) (w w' : Flow) → AreCounted ds s
    → i < length s.flows.items → ((v : Flow) → w ≡ get_or s.flows.items i v) → ((ids : List ℕ) → AreIds ids w.ids → AreIds ids w'.ids) → w' ≡ record w { ids = w'.ids }
    → s'.flows.items ≡ set s.flows.items i w' → s'.places ≡ s.places → s'.ids ≡ s.ids → AreCounted ds s'
stays ds i s s' w w' are h at keeps same items places ids =
    let own : slice_get s.flows.items i ≡ Some w = slice_get-get_or s.flows.items i w h ∙ ap Some (sym (at w)) in
    record {
      flows = subst (AreFlows ds (firsts same_ends (kept ds))) (sym items) (unchanged ds (firsts same_ends (kept ds)) s.flows.items i w w' own (λ f is. record {
        source = ap (λ x. x.source) same ∙ is.source;
        target = ap (λ x. x.target) same ∙ is.target;
        ids = keeps (ids_of f (kept ds)) is.ids;
        is_least = ap (λ x. x.is_least) same ∙ is.is_least;
        source_reason = ap (λ x. x.source_reason) same ∙ is.source_reason;
        target_reason = ap (λ x. x.target_reason) same ∙ is.target_reason;
      }) are.flows);
      places = λ a b. ap (λ (m : BTreeMap (Address × Address) ℕ). get order m (a, b)) places ∙ are.places a b;
      ids = ids ∙ are.ids;
    }
