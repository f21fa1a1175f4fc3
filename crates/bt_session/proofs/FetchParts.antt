-- The part of an end that fetches from one that serves: which blocks it has asked for, as they are asked for, and as they come.
use Rattle.std.proofs.Common.{◌≡◌, ℕ, zero, suc, ◌+◌, ◌<◌, ◌≤◌, Bool, true, false, cond, if◌then◌else◌, List, [], ◌∷◌, ◌++◌, length, set}
use Rattle.std.proofs.Common.{count_by, replicate, position, Option, Some, None, slice_get, refl, sym, ap, subst, ◌∙◌, arith, leb, ltb, ◌&&◌, not, Bor, get_or}
use Rattle.std.proofs.Common.{append_assoc}
use Rattle.std.specs.List.{list_all, position_or_len}
use Rattle.std.specs.Prelude.{unwrap_or, option_map}
use Rattle.std.specs.Str.{bytes_eq}
use Rattle.std.proofs.lemmas.Slice.Eq.{bytes_eq-Decides}
use Rattle.std.proofs.lemmas.Bool.{lt-ltb, le-ltb, le-leb, ltb-true, and_from, both_ways, false_from_ne_true}
use Rattle.std.proofs.lemmas.List.Quantifiers.{position-Some}
use Rattle.std.proofs.lemmas.Grind.{common_steps}
use Rattle.std.proofs.lemmas.List.Folds.{sum_by-replicate}
use Rattle.std.proofs.lemmas.List.{length-set, set_comm, append-nil, length-append}
use Rattle.std.proofs.lemmas.List.Sums.{sum_by-set, sum_by-cons}
use Rattle.std.proofs.lemmas.Option.{slice_get_within, slice_get-get_or, get_or_from_slice_get}
use Rattle.sha1.specs.Sha1.{sha1}
use Rattle.bt_ext.specs.Metadata.{block_count}
use Rattle.bt_metadata.specs.Assemblies.{Slot, Lacking, Asked, Rejected, Held, AssemblyState, is_asked, is_lacking, is_held, started, is_whole}
use Rattle.bt_metadata.specs.Assemblies.{is_asked_in, with_slots, with_data, unless_wrong, joined, emptied, ask_of}
use Rattle.bt_metadata.specs.declared.assembly.BlockError.{BlockError}
use Rattle.bt_metadata.specs.Blocks.{block, window, max_metadata}
use Rattle.bt_end.specs.Ends.{Part, Watching, Serving, Awaiting, Fetching, Fetched, wanted, with_asked, all_wanted, with_all_asked, assembly_of, begun}
use Rattle.bt_end.specs.Ends.{with_block, brings_mismatch, concluded, is_mismatch}
use Rattle.bt_session.specs.LinkLaws.{IsMetadata}
use Rattle.bt_session.proofs.LinkInvariant.{IsFetch}
use Rattle.bt_session.proofs.AssemblyLaws.{slot_count, started_fetch, data_fetch, asked_fetch}
use Rattle.bt_metadata.proofs.LawProofs.{whole_is_served, served_is_taken}

-- ---- what is asked

-- the slots that are asked are those of the list, each once: once each of them is held, in turn, none is asked
abbrev pub IsAskedBy : List Slot → List ℕ → Type 0
IsAskedBy ss [] = count_by is_asked ss ≡ 0
IsAskedBy ss (k ∷ ks) = (slice_get ss k ≡ Some Asked) × ((b : List ℕ) → IsAskedBy (set ss k (Held b)) ks)

-- an assembly of this metadata that has asked for these blocks, in order, which haven't come yet
pub record IsUnderWay (metadata : List ℕ) (s : AssemblyState) (asked : List ℕ) : Type 0 where
  pub is : IsFetch metadata s
  pub hash : s.info_hash ≡ sha1 metadata
  pub unrejected : (k : ℕ) → slice_get s.slots k ≡ Some Rejected → ⊥
  pub asks : IsAskedBy s.slots asked
  pub lacks : is_whole s ≡ false

-- the part of an end that fetches this metadata: it is there, or these blocks were asked for, in order, and haven't come yet
abbrev pub IsFetchOf : List ℕ → Part → List ℕ → Type 0
IsFetchOf metadata Watching asked = ⊥
IsFetchOf metadata (Serving other) asked = ⊥
IsFetchOf metadata (Awaiting most) asked = ⊥
IsFetchOf metadata (Fetching s) asked = IsUnderWay metadata s asked
IsFetchOf metadata (Fetched all) asked = (all ≡ metadata) × (asked ≡ [])

-- how many blocks are neither held, asked nor rejected
abbrev pub lacking : Part → ℕ
lacking (Fetching s) = count_by is_lacking s.slots
lacking p = 0

-- these are numbers of n blocks
abbrev pub AreBelow : ℕ → List ℕ → Type 0
AreBelow n [] = Unit {0}
AreBelow n (k ∷ ks) = (k < n) × AreBelow n ks

-- a part that had asked for some blocks, asks for these too, w at most in all, and then for no more
pub record AsksAll (metadata : List ℕ) (w : ℕ) (p : Part) (asked ks : List ℕ) : Type 0 where
  pub is : IsFetchOf metadata (with_all_asked ks p) (asked ++ ks)
  pub none : wanted w (with_all_asked ks p) ≡ None
  pub few : length (asked ++ ks) ≤ w
  pub below : AreBelow (block_count (length metadata)) ks
  pub lacks : lacking p ≡ length ks + lacking (with_all_asked ks p)

-- ---- one slot is set

-- how many pass a test
set_counts : (test : Slot → Bool) (ss : List Slot) (k : ℕ) (x y : Slot) → slice_get ss k ≡ Some x → count_by test (set ss k y) + cond (test x) 1 0
    ≡ count_by test ss + cond (test y) 1 0
set_counts test ss k x y h =
    ap (λ (z : Slot). count_by test (set ss k y) + cond (test z) 1 0) (sym (get_or_from_slice_get ss k x x h))
    ∙ sum_by-set (λ z. cond (test z) 1 0) ss k y x (slice_get_within ss k x h)

set_here : (ss : List Slot) (k : ℕ) (x y : Slot) → slice_get ss k ≡ Some x → slice_get (set ss k y) k ≡ Some y
set_here [] k x y h = absurd cc
set_here (s ∷ ss) zero x y h = refl
set_here (s ∷ ss) (suc k) x y h = set_here ss k x y h

-- another slot stays
set_there : (ss : List Slot) (k j : ℕ) (y : Slot) → (k ≡ j → ⊥) → slice_get (set ss k y) j ≡ slice_get ss j
set_there [] k j y apart = refl
set_there (s ∷ ss) zero zero y apart = absurd (apart refl)
set_there (s ∷ ss) zero (suc j) y apart = refl
set_there (s ∷ ss) (suc k) zero y apart = refl
set_there (s ∷ ss) (suc k) (suc j) y apart = set_there ss k j y (λ e. apart (ap suc e))

still_unrejected : (ss : List Slot) (k j : ℕ) (y : Slot) → (y ≡ Rejected → ⊥) → slice_get (set ss k y) j ≡ Some Rejected → slice_get ss j ≡ Some Rejected
still_unrejected [] k j y apart h = h
still_unrejected (s ∷ ss) zero zero y apart h = absurd (apart cc)
still_unrejected (s ∷ ss) zero (suc j) y apart h = h
still_unrejected (s ∷ ss) (suc k) zero y apart h = h
still_unrejected (s ∷ ss) (suc k) (suc j) y apart h = still_unrejected ss k j y apart h

-- ---- the slots that are asked

-- an asked slot and a lacking one are two
are_two : (ss : List Slot) (k j : ℕ) → slice_get ss k ≡ Some Asked → slice_get ss j ≡ Some Lacking → k ≡ j → ⊥
are_two ss k j h g e = absurd cc

asked_count : (ss : List Slot) (asked : List ℕ) → IsAskedBy ss asked → count_by is_asked ss ≡ length asked
asked_count ss [] f = f
asked_count ss (k ∷ ks) f = omega (arith, set_counts is_asked ss k Asked (Held []) f.0, asked_count (set ss k (Held [])) ks (f.1 []))

-- one more is asked
one_more_asked : (ss : List Slot) (asked : List ℕ) (k : ℕ) → slice_get ss k ≡ Some Lacking → IsAskedBy ss asked → IsAskedBy (set ss k Asked) (asked ++ k ∷ [])
one_more_asked ss [] k lacks f = (
  set_here ss k Lacking Asked lacks,
  λ b. omega (
    arith,
    f,
    set_counts is_asked ss k Lacking Asked lacks,
    set_counts is_asked (set ss k Asked) k Asked (Held b) (set_here ss k Lacking Asked lacks),
  ),
)
one_more_asked ss (j ∷ js) k lacks f =
    let two : j ≡ k → ⊥ = are_two ss j k f.0 lacks in (
      set_there ss k j Asked (λ e. two (sym e)) ∙ f.0,
      λ b. subst (λ (x : List Slot). IsAskedBy x (js ++ k ∷ [])) (set_comm ss j k (Held b) Asked two)
          (one_more_asked (set ss j (Held b)) js k (set_there ss j k (Held b) two ∙ lacks) (f.1 b)),
    )

all_below : (n : ℕ) (ss : List Slot) (asked : List ℕ) → length ss ≡ n → IsAskedBy ss asked → AreBelow n asked
all_below n ss [] e f = tt
all_below n ss (k ∷ ks) e f = (
  omega (arith, e, slice_get_within ss k Asked f.0),
  all_below n (set ss k (Held [])) ks (length-set ss k (Held []) ∙ e) (f.1 []),
)

-- ---- each slot is held

whole_asks_none : (ss : List Slot) (k : ℕ) → list_all is_held ss ≡ true → slice_get ss k ≡ Some Asked → ⊥
whole_asks_none [] k all h = cc
whole_asks_none (Held b ∷ ss) zero all h = cc
whole_asks_none (Held b ∷ ss) (suc k) all h = whole_asks_none ss k all h
whole_asks_none (Lacking ∷ ss) k all h = absurd cc
whole_asks_none (Asked ∷ ss) k all h = absurd cc
whole_asks_none (Rejected ∷ ss) k all h = absurd cc

whole_lacks_none : (ss : List Slot) → list_all is_held ss ≡ true → count_by is_lacking ss ≡ 0
whole_lacks_none [] all = refl
whole_lacks_none (Held b ∷ ss) all = omega (arith, sum_by-cons (λ x. cond (is_lacking x) 1 0) (Held b) ss, whole_lacks_none ss all)
whole_lacks_none (Lacking ∷ ss) all = absurd cc
whole_lacks_none (Asked ∷ ss) all = absurd cc
whole_lacks_none (Rejected ∷ ss) all = absurd cc

-- where none lacks, is asked or is rejected
all_held : (ss : List Slot) → ((k : ℕ) → slice_get ss k ≡ Some Rejected → ⊥) → count_by is_asked ss ≡ 0 → length ss ≤ position_or_len is_lacking ss
    → list_all is_held ss ≡ true
all_held [] unrejected none past = refl
all_held (Held b ∷ ss) unrejected none past =
    all_held ss (λ k h. unrejected (suc k) h) (omega (arith, none, sum_by-cons (λ x. cond (is_asked x) 1 0) (Held b) ss)) (omega (arith, past))
all_held (Lacking ∷ ss) unrejected none past = absurd (omega (arith, past))
all_held (Asked ∷ ss) unrejected none past = absurd (omega (arith, none, sum_by-cons (λ x. cond (is_asked x) 1 0) Asked ss))
all_held (Rejected ∷ ss) unrejected none past = absurd (unrejected 0 refl)

-- ---- the start

no_slot_rejected : (n k : ℕ) → slice_get (replicate n Lacking) k ≡ Some Rejected → ⊥
no_slot_rejected zero k h = cc
no_slot_rejected (suc n) zero h = cc
no_slot_rejected (suc n) (suc k) h = no_slot_rejected n k h

not_all_held : (n : ℕ) → 0 < n → list_all is_held (replicate n Lacking) ≡ false
not_all_held zero h = absurd (omega (arith, h))
not_all_held (suc n) h = refl

begins_by : (metadata hash : List ℕ) → IsMetadata metadata → sha1 metadata ≡ hash → (room : Bool) → room ≡ true
    → IsFetchOf metadata (begun (if room then Some (started hash (length metadata)) else None) (Awaiting max_metadata)) []
    × (lacking (begun (if room then Some (started hash (length metadata)) else None) (Awaiting max_metadata)) ≡ block_count (length metadata))
begins_by metadata hash h e true is =
    let n : ℕ = block_count (length metadata) in (
      record {
        is = started_fetch metadata hash (length metadata) h refl;
        hash = sym e;
        unrejected = λ k got. no_slot_rejected n k got;
        asks = omega (arith, sum_by-replicate (λ x. cond (is_asked x) 1 0) n Lacking);
        lacks = not_all_held n (omega (arith, h.least));
      },
      omega (arith, sum_by-replicate (λ x. cond (is_lacking x) 1 0) n Lacking),
    )
begins_by metadata hash h e false is = absurd cc

-- an end that awaits a size begins to fetch: nothing is asked for, and each block lacks
pub fetch_begins : (metadata hash : List ℕ) → IsMetadata metadata → sha1 metadata ≡ hash
    → IsFetchOf metadata (begun (assembly_of hash (Awaiting max_metadata) (Some (length metadata))) (Awaiting max_metadata)) []
    × (lacking (begun (assembly_of hash (Awaiting max_metadata) (Some (length metadata))) (Awaiting max_metadata)) ≡ block_count (length metadata))
fetch_begins metadata hash h e =
    let least : ltb 0 (length metadata) ≡ true = lt-ltb 0 (length metadata) h.least in
    let most : leb (length metadata) max_metadata ≡ true = le-leb (length metadata) max_metadata h.most in
    begins_by metadata hash h e (ltb 0 (length metadata) && leb (length metadata) max_metadata)
    (and_from (ltb 0 (length metadata)) (leb (length metadata) max_metadata) least most)

-- ---- blocks that are asked for

is_lacking_slot : (x : Slot) → is_lacking x ≡ true → x ≡ Lacking
is_lacking_slot Lacking e = refl
is_lacking_slot Asked e = absurd cc
is_lacking_slot Rejected e = absurd cc
is_lacking_slot (Held b) e = absurd cc

-- the block that is wanted is one that lacks
first_lacking : (ss : List Slot) (k : ℕ) → position is_lacking ss ≡ Some k → slice_get ss k ≡ Some Lacking
first_lacking ss k e =
    let p = position-Some is_lacking ss k Lacking e in
    slice_get-get_or ss k Lacking p.0 ∙ ap Some (is_lacking_slot (get_or ss k Lacking) p.1)

wanted_by : (few : Bool) (o : Option ℕ) (k : ℕ) → (if few then o else None) ≡ Some k → (few ≡ true) × (o ≡ Some k)
wanted_by true o k e = (refl, e)
wanted_by false o k e = absurd cc

-- a part with one more block asked for
record AsksOne (metadata : List ℕ) (w k : ℕ) (p : Part) (asked : List ℕ) : Type 0 where
  pub is : IsFetchOf metadata (with_asked (Some k) p) (asked ++ k ∷ [])
  pub few : length asked < w
  pub below : k < block_count (length metadata)
  pub lacks : lacking p ≡ 1 + lacking (with_asked (Some k) p)

asks_one : (metadata : List ℕ) (w k : ℕ) (p : Part) (asked : List ℕ) → IsFetchOf metadata p asked → wanted w p ≡ Some k → AsksOne metadata w k p asked
asks_one metadata w k (Fetching s) asked f e =
    let n : ℕ = count_by is_asked s.slots in
    let one = wanted_by (ltb n w) (ask_of s.slots) k e in
    let first : slice_get s.slots k ≡ Some Lacking = first_lacking s.slots k (wanted_by (ltb n window) (position is_lacking s.slots) k one.1).1 in
    let here : slice_get (set s.slots k Asked) k ≡ Some Asked = set_here s.slots k Lacking Asked first in
    record {
      is = record {
        is = asked_fetch metadata s k f.is one.1;
        hash = f.hash;
        unrejected = λ j got. f.unrejected j (still_unrejected s.slots k j Asked (λ e. cc) got);
        asks = one_more_asked s.slots asked k first f.asks;
        lacks = false_from_ne_true (list_all is_held (set s.slots k Asked)) (λ all. whole_asks_none (set s.slots k Asked) k all here);
      };
      few = omega (arith, ltb-true n w one.0, asked_count s.slots asked f.asks);
      below = omega (arith, slice_get_within s.slots k Lacking first, slot_count metadata s f.is);
      lacks = omega (arith, set_counts is_lacking s.slots k Lacking Asked first);
    }
asks_one metadata w k (Fetched all) asked f e = absurd cc
asks_one metadata w k Watching asked f e = absurd f
asks_one metadata w k (Serving other) asked f e = absurd f
asks_one metadata w k (Awaiting most) asked f e = absurd f

-- with as many asked as may be, none is wanted
none_wanted : (metadata : List ℕ) (w : ℕ) (p : Part) (asked : List ℕ) → IsFetchOf metadata p asked → w ≤ length asked → wanted w p ≡ None
none_wanted metadata w (Fetching s) asked f full =
    ap (λ (few : Bool). if few then ask_of s.slots else None)
    (le-ltb (count_by is_asked s.slots) w (omega (arith, full, asked_count s.slots asked f.asks)))
none_wanted metadata w (Fetched all) asked f full = refl
none_wanted metadata w Watching asked f full = absurd f
none_wanted metadata w (Serving other) asked f full = absurd f
none_wanted metadata w (Awaiting most) asked f full = absurd f

asks_none : (metadata : List ℕ) (w : ℕ) (p : Part) (asked : List ℕ) → IsFetchOf metadata p asked → length asked ≤ w → wanted w p ≡ None
    → AsksAll metadata w p asked []
asks_none metadata w p asked f few none = record {
  is = subst (λ (xs : List ℕ). IsFetchOf metadata p xs) (sym (append-nil asked)) f;
  none = none;
  few = subst (λ (xs : List ℕ). length xs ≤ w) (sym (append-nil asked)) few;
  below = tt;
  lacks = omega arith;
}

asks_then : (metadata : List ℕ) (w k : ℕ) (p : Part) (asked ks : List ℕ) → AsksOne metadata w k p asked
    → AsksAll metadata w (with_asked (Some k) p) (asked ++ k ∷ []) ks → AsksAll metadata w p asked (k ∷ ks)
asks_then metadata w k p asked ks one r =
    let e : (asked ++ k ∷ []) ++ ks ≡ asked ++ k ∷ ks = append_assoc asked (k ∷ []) ks in
    record {
      is = subst (λ (xs : List ℕ). IsFetchOf metadata (with_all_asked ks (with_asked (Some k) p)) xs) e r.is;
      none = r.none;
      few = subst (λ (xs : List ℕ). length xs ≤ w) e r.few;
      below = (one.below, r.below);
      lacks = omega (arith, one.lacks, r.lacks);
    }

asks_by : (metadata : List ℕ) (w n : ℕ) (p : Part) (asked : List ℕ) → IsFetchOf metadata p asked → length asked ≤ w → w ≤ suc n + length asked
    → ((k : ℕ) → IsFetchOf metadata (with_asked (Some k) p) (asked ++ k ∷ []) → length (asked ++ k ∷ []) ≤ w → w ≤ n + length (asked ++ k ∷ [])
    → AsksAll metadata w (with_asked (Some k) p) (asked ++ k ∷ []) (all_wanted n w (with_asked (Some k) p)))
    → (o : Option ℕ) → wanted w p ≡ o
    → AsksAll metadata w p asked (unwrap_or (option_map (λ k. k ∷ all_wanted n w (with_asked (Some k) p)) o) [])
asks_by metadata w n p asked f few room more None is = asks_none metadata w p asked f few is
asks_by metadata w n p asked f few room more (Some k) is =
    let one = asks_one metadata w k p asked f is in
    asks_then metadata w k p asked (all_wanted n w (with_asked (Some k) p)) one
    (more k one.is (omega (arith, one.few, length-append asked (k ∷ []))) (omega (arith, room, length-append asked (k ∷ []))))

asks_all : (metadata : List ℕ) (w n : ℕ) (p : Part) (asked : List ℕ) → IsFetchOf metadata p asked → length asked ≤ w → w ≤ n + length asked
    → AsksAll metadata w p asked (all_wanted n w p)
asks_all metadata w zero p asked f few room =
    asks_none metadata w p asked f few (none_wanted metadata w p asked f (omega (arith, room)))
asks_all metadata w (suc n) p asked f few room =
    asks_by metadata w n p asked f few room (λ k g short next. asks_all metadata w n (with_asked (Some k) p) (asked ++ k ∷ []) g short next) (wanted w p) refl

-- a part asks for blocks until none is wanted
pub fetch_asks : (metadata : List ℕ) (w : ℕ) (p : Part) (asked : List ℕ) → w ≤ window → IsFetchOf metadata p asked → length asked ≤ w
    → AsksAll metadata w p asked (all_wanted window w p)
fetch_asks metadata w p asked most f few = asks_all metadata w window p asked f few (omega (arith, most))

-- blocks that were asked for are blocks of the metadata
pub fetch_below : (metadata : List ℕ) (p : Part) (asked : List ℕ) → IsFetchOf metadata p asked → AreBelow (block_count (length metadata)) asked
fetch_below metadata (Fetching s) asked f = all_below (block_count (length metadata)) s.slots asked (slot_count metadata s f.is) f.asks
fetch_below metadata (Fetched all) asked f = subst (λ (ks : List ℕ). AreBelow (block_count (length metadata)) ks) (sym f.1) tt
fetch_below metadata Watching asked f = absurd f
fetch_below metadata (Serving other) asked f = absurd f
fetch_below metadata (Awaiting most) asked f = absurd f

-- ---- a block that comes

-- the slots with this block
abbrev holding : List ℕ → ℕ → AssemblyState → AssemblyState
holding metadata k s = with_slots s (set s.slots k (Held (block metadata k)))

is_taken : (metadata : List ℕ) (s : AssemblyState) (k : ℕ) → IsFetch metadata s → k < block_count (length metadata) → slice_get s.slots k ≡ Some Asked
    → with_data s k (length metadata) (block metadata k) ≡ holding metadata k s
is_taken metadata s k f lt asks =
    let b : Bor (List ℕ) = record { ref_ptr = (0, 0); now = block metadata k } in
    ap (λ (o : Option BlockError). unless_wrong o (holding metadata k s) s)
    (served_is_taken metadata s k (length metadata) b f.is f.size (lt, refl, refl) (ap is_asked_in asks))

taken_fetch : (metadata : List ℕ) (s : AssemblyState) (k : ℕ) → IsFetch metadata s → k < block_count (length metadata) → slice_get s.slots k ≡ Some Asked
    → IsFetch metadata (holding metadata k s)
taken_fetch metadata s k f lt asks = subst (λ (n : AssemblyState). IsFetch metadata n) (is_taken metadata s k f lt asks) (data_fetch metadata s k f lt)

none_follows : (ss : List Slot) (ks : List ℕ) → list_all is_held ss ≡ true → IsAskedBy ss ks → ks ≡ []
none_follows ss [] all f = refl
none_follows ss (k ∷ ks) all f = absurd (whole_asks_none ss k all f.0)

itself : (x y z : List ℕ) → x ≡ y → z ≡ sha1 y → bytes_eq (sha1 x) z ≡ true
itself x y z same hash = (bytes_eq-Decides (sha1 x) z).1 (ap sha1 same ∙ sym hash)

-- an assembly with one more block, by whether each is held now, and whether they are those of the info hash
takes_by : {metadata : List ℕ} {n : AssemblyState} (ks : List ℕ) {lacks : ℕ} → IsFetch metadata n → n.info_hash ≡ sha1 metadata
    → ((k : ℕ) → slice_get n.slots k ≡ Some Rejected → ⊥) → IsAskedBy n.slots ks → count_by is_lacking n.slots ≡ lacks → (whole right : Bool)
    → is_whole n ≡ whole → bytes_eq (sha1 (joined n.slots)) n.info_hash ≡ right
    → IsFetchOf metadata (if whole then (if right then Fetched (joined n.slots) else Fetching (emptied n)) else Fetching n) ks
    × (lacking (if whole then (if right then Fetched (joined n.slots) else Fetching (emptied n)) else Fetching n) ≡ lacks)
    × ((whole && not right) ≡ false)
takes_by {metadata} {n} ks f hash unrejected asks count true true all same =
    ((whole_is_served metadata n f.is f.size f.holds all, none_follows n.slots ks all asks), sym (whole_lacks_none n.slots all) ∙ count, refl)
takes_by {metadata} {n} ks f hash unrejected asks count true false all same =
    absurd (both_ways (bytes_eq (sha1 (joined n.slots)) n.info_hash) same
    (itself (joined n.slots) metadata n.info_hash (whole_is_served metadata n f.is f.size f.holds all) hash))
takes_by ks {lacks} f hash unrejected asks count false right all same =
    (record { is = f; hash = hash; unrejected = unrejected; asks = asks; lacks = all }, count, refl)

taken_lacks : (ss : List Slot) (k : ℕ) (b : List ℕ) → slice_get ss k ≡ Some Asked → count_by is_lacking (set ss k (Held b)) ≡ count_by is_lacking ss
taken_lacks ss k b h = omega (arith, set_counts is_lacking ss k Asked (Held b) h)

-- what with_block and brings_mismatch make of an assembly
takes_with : (metadata : List ℕ) (n : AssemblyState) (ks : List ℕ) (lacks : ℕ) → IsFetch metadata n → n.info_hash ≡ sha1 metadata
    → ((k : ℕ) → slice_get n.slots k ≡ Some Rejected → ⊥) → IsAskedBy n.slots ks → count_by is_lacking n.slots ≡ lacks
    → IsFetchOf metadata (concluded n) ks × (lacking (concluded n) ≡ lacks) × (is_mismatch n ≡ false)
takes_with metadata n ks lacks f hash unrejected asks count =
    takes_by ks f hash unrejected asks count (is_whole n) (bytes_eq (sha1 (joined n.slots)) n.info_hash) refl refl

-- the first of the blocks that were asked for comes
pub fetch_takes : (metadata : List ℕ) (p : Part) (k : ℕ) (ks : List ℕ) → IsFetchOf metadata p (k ∷ ks)
    → IsFetchOf metadata (with_block k (length metadata) (block metadata k) p) ks
    × (lacking (with_block k (length metadata) (block metadata k) p) ≡ lacking p)
    × (brings_mismatch k (length metadata) (block metadata k) p ≡ false)
fetch_takes metadata (Fetching s) k ks f =
    let lt : k < block_count (length metadata) = omega (arith, slice_get_within s.slots k Asked f.asks.0, slot_count metadata s f.is) in
    subst (λ (n : AssemblyState). IsFetchOf metadata (concluded n) ks × (lacking (concluded n) ≡ count_by is_lacking s.slots) × (is_mismatch n ≡ false))
    (sym (is_taken metadata s k f.is lt f.asks.0))
    (takes_with metadata (holding metadata k s) ks (count_by is_lacking s.slots) (taken_fetch metadata s k f.is lt f.asks.0) f.hash
    (λ j got. f.unrejected j (still_unrejected s.slots k j (Held (block metadata k)) (λ e. cc) got)) (f.asks.1 (block metadata k))
    (taken_lacks s.slots k (block metadata k) f.asks.0))
fetch_takes metadata (Fetched all) k ks f = absurd cc
fetch_takes metadata Watching k ks f = absurd f
fetch_takes metadata (Serving other) k ks f = absurd f
fetch_takes metadata (Awaiting most) k ks f = absurd f

-- ---- the end

none_by : (few fewer : Bool) (o : Option ℕ) → few ≡ true → fewer ≡ true → (if few then (if fewer then o else None) else None) ≡ None → o ≡ None
none_by true true o few fewer e = e
none_by true false o few fewer e = absurd cc
none_by false fewer o few same e = absurd cc

past_all : (ss : List Slot) → position is_lacking ss ≡ None → length ss ≤ position_or_len is_lacking ss
past_all ss e = grind (arith, common_steps)

-- where no block is under way and none is wanted, the metadata is there
pub fetch_ends : (metadata : List ℕ) (w : ℕ) (p : Part) → 1 ≤ w → IsFetchOf metadata p [] → wanted w p ≡ None → p ≡ Fetched metadata
fetch_ends metadata w (Fetched all) least f none = ap Fetched f.0
fetch_ends metadata w (Fetching s) least f none =
    let n : ℕ = count_by is_asked s.slots in
    let lacks : position is_lacking s.slots ≡ None =
    none_by (ltb n w) (ltb n window) (position is_lacking s.slots) (lt-ltb n w (omega (arith, f.asks))) (lt-ltb n window (omega (arith, f.asks))) none in
    absurd (both_ways (is_whole s) f.lacks (all_held s.slots f.unrejected f.asks (past_all s.slots lacks)))
fetch_ends metadata w Watching least f none = absurd f
fetch_ends metadata w (Serving other) least f none = absurd f
fetch_ends metadata w (Awaiting most) least f none = absurd f
