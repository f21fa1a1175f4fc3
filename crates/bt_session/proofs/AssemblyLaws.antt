-- An assembly that holds blocks of one metadata alone stays such a one, whatever is done to it with that metadata's blocks.
use Rattle.std.proofs.Common.{◌≡◌, ℕ, zero, suc, ◌+◌, ◌<◌, ◌≤◌, ◌⊎◌, inl, inr, Bool, true, false, cond, leb, ltb, if◌then◌else◌, List, [], ◌∷◌, length, set}
use Rattle.std.proofs.Common.{map, replicate, count_by, fold, position, Option, Some, None, slice_get, refl, sym, ap, ◌∙◌, arith, add-zero}
use Rattle.std.proofs.lemmas.Bool.{leb-false, ltb-true}
use Rattle.std.proofs.lemmas.List.{length-set, length-replicate, length-map}
use Rattle.std.proofs.lemmas.List.Sums.{sum_by-set}
use Rattle.std.proofs.lemmas.List.Quantifiers.{position-Some}
use Rattle.bt_ext.specs.Metadata.{block_count, block_len}
use Rattle.bt_metadata.specs.Assemblies.{Slot, Lacking, Asked, Rejected, Held, AssemblyState, is_asked, is_lacking, started, ask_of, asking, with_slots}
use Rattle.bt_metadata.specs.Assemblies.{with_data, with_reject, unless_wrong, data_error, piece_error, is_asked_in, kept, disconnected}
use Rattle.bt_metadata.specs.Blocks.{block, window}
use Rattle.bt_metadata.specs.declared.assembly.BlockError.{BlockError}
use Rattle.bt_metadata.specs.declared.assembly.BlockError.TheVariants.{PieceRange, NotAsked}
use Rattle.bt_session.specs.LinkLaws.{IsMetadata}
use Rattle.bt_session.proofs.LinkInvariant.{IsFetch}
use Rattle.bt_metadata.proofs.LawProofs.{found}
use Rattle.bt_session.proofs.OwnMessages.{block_length}

pub slot_count : (metadata : List ℕ) (a : AssemblyState) → IsFetch metadata a → length a.slots ≡ block_count (length metadata)
slot_count metadata a f = f.is.count ∙ ap block_count f.size

count_set : (ss : List Slot) (k : ℕ) (y : Slot) → k < length ss → count_by is_asked (set ss k y) ≤ count_by is_asked ss + cond (is_asked y) 1 0
count_set ss k y h = let e = sum_by-set (λ x. cond (is_asked x) 1 0) ss k y Lacking h in omega (arith, e)

-- ---- one slot is set

by_place : (metadata : List ℕ) (ss : List Slot) (k j : ℕ) (y : Slot) (b : List ℕ) → ((b : List ℕ) → y ≡ Held b → b ≡ block metadata k)
    → ((j : ℕ) (b : List ℕ) → slice_get ss j ≡ Some (Held b) → b ≡ block metadata j)
    → ((j ≡ k) × (y ≡ Held b)) ⊎ (slice_get ss j ≡ Some (Held b)) → b ≡ block metadata j
by_place metadata ss k j y b new old (inl h) = new b h.1 ∙ ap (block metadata) (sym h.0)
by_place metadata ss k j y b new old (inr h) = old j b h

length_by : (metadata : List ℕ) (a : AssemblyState) (k j : ℕ) (y : Slot) (b : List ℕ) → IsFetch metadata a → k < block_count (length metadata)
    → ((b : List ℕ) → y ≡ Held b → b ≡ block metadata k)
    → ((j ≡ k) × (y ≡ Held b)) ⊎ (slice_get a.slots j ≡ Some (Held b)) → length b ≡ block_len a.size j
length_by metadata a k j y b f lt new (inl h) = ap length (new b h.1) ∙ block_length metadata k lt ∙ ap (λ (n : ℕ). block_len n k) (sym f.size)
    ∙ ap (block_len a.size) (sym h.0)
length_by metadata a k j y b f lt new (inr h) = f.is.held j b h

changed : (metadata : List ℕ) (a : AssemblyState) (k : ℕ) (y : Slot) → IsFetch metadata a → k < block_count (length metadata)
    → count_by is_asked a.slots + cond (is_asked y) 1 0 ≤ window → ((b : List ℕ) → y ≡ Held b → b ≡ block metadata k)
    → IsFetch metadata (with_slots a (set a.slots k y))
changed metadata a k y f lt few new = record {
  is = record {
    least = f.is.least;
    most = f.is.most;
    count = length-set a.slots k y ∙ f.is.count;
    held = λ j b h. length_by metadata a k j y b f lt new (found a.slots k j y b h);
    asked = omega (arith, count_set a.slots k y (omega (arith, slot_count metadata a f)));
  };
  size = f.size;
  holds = λ j b h. by_place metadata a.slots k j y b new f.holds (found a.slots k j y b h);
}

-- ---- asking

asked_some : (few : Bool) (o : Option ℕ) (k : ℕ) → (if few then o else None) ≡ Some k → (few ≡ true) × (o ≡ Some k)
asked_some true o k e = (refl, e)
asked_some false o k e = absurd cc

pub asks_within : (metadata : List ℕ) (a : AssemblyState) (k : ℕ) → IsFetch metadata a → ask_of a.slots ≡ Some k → (k < block_count (length metadata))
    × (count_by is_asked a.slots < window)
asks_within metadata a k f e =
    let h = asked_some (ltb (count_by is_asked a.slots) window) (position is_lacking a.slots) k e in
    let p = position-Some is_lacking a.slots k Lacking h.1 in
    (omega (arith, p.0, slot_count metadata a f), ltb-true (count_by is_asked a.slots) window h.0)

pub asked_fetch : (metadata : List ℕ) (a : AssemblyState) (k : ℕ) → IsFetch metadata a → ask_of a.slots ≡ Some k
    → IsFetch metadata (with_slots a (asking (Some k) a.slots))
asked_fetch metadata a k f e = let h = asks_within metadata a k f e in changed metadata a k Asked f h.0 (omega (arith, h.1)) (λ b same. absurd cc)

-- ---- blocks that come

unless_fetch : (metadata : List ℕ) (a b : AssemblyState) (o : Option BlockError) → IsFetch metadata a → (o ≡ None → IsFetch metadata b)
    → IsFetch metadata (unless_wrong o b a)
unless_fetch metadata a b None f g = g refl
unless_fetch metadata a b (Some e) f g = f

pub data_fetch : (metadata : List ℕ) (a : AssemblyState) (k : ℕ) → IsFetch metadata a → k < block_count (length metadata)
    → IsFetch metadata (with_data a k (length metadata) (block metadata k))
data_fetch metadata a k f lt =
    unless_fetch metadata a (with_slots a (set a.slots k (Held (block metadata k)))) (data_error a k (length metadata) (block metadata k)) f
    (λ none. changed metadata a k (Held (block metadata k)) f lt (omega (arith, f.is.asked)) (λ b same. let e : b ≡ block metadata k = cc in e))

piece_within : (ss : List Slot) (k : ℕ) (past : Bool) (o : Option BlockError) → leb (length ss) k ≡ past → (if past then Some PieceRange else o) ≡ None
    → k < length ss
piece_within ss k true o e h = absurd cc
piece_within ss k false o e h = leb-false (length ss) k e

pub reject_fetch : (metadata : List ℕ) (a : AssemblyState) (k : ℕ) → IsFetch metadata a → IsFetch metadata (with_reject a k)
reject_fetch metadata a k f =
    unless_fetch metadata a (with_slots a (set a.slots k Rejected)) (piece_error a k) f
    (λ none. changed metadata a k Rejected f (omega (
      arith,
      slot_count metadata a f,
      piece_within a.slots k (leb (length a.slots) k)
          (if is_asked_in (slice_get a.slots k) then None else Some NotAsked) refl none,
    )) (omega (arith, f.is.asked)) (λ b same. absurd cc))

-- ---- an assembly that starts, or starts over

none_held : (n k : ℕ) (b : List ℕ) → slice_get (replicate n Lacking) k ≡ Some (Held b) → ⊥
none_held zero k b h = cc
none_held (suc n) zero b h = cc
none_held (suc n) (suc k) b h = none_held n k b h

lacking_from : (k n : ℕ) → fold (λ a x. a + cond (is_asked x) 1 0) n (replicate k Lacking) ≡ n
lacking_from zero n = refl
lacking_from (suc k) n = lacking_from k (n + 0) ∙ add-zero n

pub started_fetch : (metadata hash : List ℕ) (size : ℕ) → IsMetadata metadata → size ≡ length metadata → IsFetch metadata (started hash size)
started_fetch metadata hash size h e = record {
  is = record {
    least = omega (arith, h.least);
    most = omega (arith, h.most);
    count = length-replicate (block_count size) Lacking;
    held = λ k b got. absurd (none_held (block_count size) k b got);
    asked = let none : count_by is_asked (replicate (block_count size) Lacking) ≡ 0 = lacking_from (block_count size) 0 in omega (arith, none);
  };
  size = e;
  holds = λ k b got. absurd (none_held (block_count size) k b got);
}

-- ---- a new connection

held_before : (s : Slot) (b : List ℕ) → kept s ≡ Held b → s ≡ Held b
held_before Lacking b e = absurd cc
held_before Asked b e = absurd cc
held_before Rejected b e = absurd cc
held_before (Held c) b e = e

got_before : (ss : List Slot) (k : ℕ) (b : List ℕ) → slice_get (map kept ss) k ≡ Some (Held b) → slice_get ss k ≡ Some (Held b)
got_before [] k b h = absurd cc
got_before (s ∷ ss) zero b h = ap Some (held_before s b cc)
got_before (s ∷ ss) (suc k) b h = got_before ss k b h

kept_from : (ss : List Slot) (n : ℕ) → fold (λ a x. a + cond (is_asked x) 1 0) n (map kept ss) ≡ n
kept_from [] n = refl
kept_from (Lacking ∷ ss) n = kept_from ss (n + 0) ∙ add-zero n
kept_from (Asked ∷ ss) n = kept_from ss (n + 0) ∙ add-zero n
kept_from (Rejected ∷ ss) n = kept_from ss (n + 0) ∙ add-zero n
kept_from (Held b ∷ ss) n = kept_from ss (n + 0) ∙ add-zero n

pub disconnected_fetch : (metadata : List ℕ) (a : AssemblyState) → IsFetch metadata a → IsFetch metadata (disconnected a)
disconnected_fetch metadata a f = record {
  is = record {
    least = f.is.least;
    most = f.is.most;
    count = length-map a.slots kept ∙ f.is.count;
    held = λ k b got. f.is.held k b (got_before a.slots k b got);
    asked = let none : count_by is_asked (map kept a.slots) ≡ 0 = kept_from a.slots 0 in omega (arith, none);
  };
  size = f.size;
  holds = λ k b got. f.holds k b (got_before a.slots k b got);
}
