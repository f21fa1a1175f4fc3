-- The blocks of an end, found one after the other.
use Rattle.std.proofs.Common.{◌≡◌, ℕ, zero, suc, ◌+◌, List, [], ◌∷◌, ◌++◌, take, slice_get, option_and_then, refl, sym, ap, ◌∙◌, arith, append_assoc}
use Rattle.std.proofs.lemmas.List.{append-nil, take_all}
use Rattle.bt_metadata.specs.Assemblies.{Slot, block_in}
use Rattle.bt_end.specs.Ends.{Part, Watching, Serving, Awaiting, Fetching, Fetched, fetched_block}
use Rattle.bt_end.specs.Sturdy.{IsFetched}
use Rattle.bt_session.specs.Reports.{numbered, blocks_from, held_blocks}

-- the held blocks among those of numbers below n
abbrev pub blocks_below : ℕ → Part → List (ℕ × List ℕ)
blocks_below n (Fetching a) = blocks_from 0 (take n a.slots)
blocks_below n p = []

none_below : (k : ℕ) (ss : List Slot) → [] ≡ blocks_from k (take 0 ss)
none_below k [] = refl
none_below k (s ∷ ss) = refl

pub none_yet : (p : Part) → [] ≡ blocks_below 0 p
none_yet Watching = refl
none_yet (Serving metadata) = refl
none_yet (Awaiting most) = refl
none_yet (Fetching a) = none_below 0 a.slots
none_yet (Fetched metadata) = refl

slot_more : (k i : ℕ) (ss : List Slot) → blocks_from k (take (suc i) ss) ≡ blocks_from k (take i ss)
    ++ numbered (k + i) (option_and_then block_in (slice_get ss i))
slot_more k zero [] = refl
slot_more k (suc i) [] = refl
slot_more k zero (s ∷ ss) =
    let e : k ≡ k + 0 = omega arith in
    append-nil (numbered k (block_in s)) ∙ ap (λ (n : ℕ). numbered n (block_in s)) e
slot_more k (suc i) (s ∷ ss) =
    let e : suc k + i ≡ k + suc i = omega arith in
    ap (λ (xs : List (ℕ × List ℕ)). numbered k (block_in s) ++ xs) (slot_more (suc k) i ss
    ∙ ap (λ (n : ℕ). blocks_from (suc k) (take i ss) ++ numbered n (option_and_then block_in (slice_get ss i))) e)
    ∙ sym (append_assoc (numbered k (block_in s)) (blocks_from (suc k) (take i ss)) (numbered (k + suc i) (option_and_then block_in (slice_get ss i))))

pub block_more : (i : ℕ) (p : Part) → blocks_below (i + 1) p ≡ blocks_below i p ++ numbered i (fetched_block p i)
block_more i Watching = refl
block_more i (Serving metadata) = refl
block_more i (Awaiting most) = refl
block_more i (Fetching a) =
    let e : 0 + i ≡ i = omega arith in
    let one : i + 1 ≡ suc i = omega arith in
    ap (λ (n : ℕ). blocks_from 0 (take n a.slots)) one ∙ slot_more 0 i a.slots
    ∙ ap (λ (n : ℕ). blocks_from 0 (take i a.slots) ++ numbered n (option_and_then block_in (slice_get a.slots i))) e
block_more i (Fetched metadata) = refl

-- no more than 4,096
pub all_below : (p : Part) → IsFetched p → blocks_below 4096 p ≡ held_blocks p
all_below Watching h = refl
all_below (Serving metadata) h = refl
all_below (Awaiting most) h = refl
all_below (Fetching a) h = ap (blocks_from 0) (take_all 4096 a.slots (omega (arith, h.count, h.most)))
all_below (Fetched metadata) h = refl
