-- What an end has fetched.
use Rattle.std.proofs.Common.{◌≡◌, ℕ, zero, suc, ◌-◌, ◌*◌, ◌<◌, ◌≤◌, Bool, true, false, List, [], ◌∷◌, length, min, Some, if◌then◌else◌, refl, sym, ap, ◌∙◌}
use Rattle.std.proofs.Common.{arith, length-append}
use Rattle.std.specs.Prelude.{slice_get, IfSome}
use Rattle.std.proofs.lemmas.List.Sums.{count_by-le-length}
use Rattle.bt_metadata.specs.Blocks.{max_metadata}
use Rattle.bt_end.specs.Sturdy.{IsPartOf}
use Rattle.std.specs.List.{list_all}
use Rattle.std.specs.Str.{bytes_eq}
use Rattle.std.proofs.lemmas.Slice.Eq.{bytes_eq-Decides}
use Rattle.sha1.specs.Sha1.{sha1}
use Rattle.bt_ext.specs.Metadata.{block_count}
use Rattle.bt_metadata.specs.Assemblies.{Slot, Lacking, Asked, Rejected, Held, AssemblyState, is_held, is_whole, joined, emptied, IsFinished}
use Rattle.bt_end.specs.Ends.{Part, Watching, Serving, Awaiting, Fetching, Fetched, concluded, progress_of}
use Rattle.bt_metadata.specs.Sound.{IsAssembly}
use Rattle.bt_metadata.proofs.Lengths.{block_len_is}

Fits : List Slot → ℕ → Type 0
Fits ss n = (k : ℕ) (b : List ℕ) → slice_get ss k ≡ Some (Held b) → length b ≡ min 16384 (n - 16384 * k)

joined_length : (ss : List Slot) (n : ℕ) → length ss ≡ block_count n → list_all is_held ss ≡ true → Fits ss n → length (joined ss) ≡ n
unfolding Fits
joined_length [] n c h f = omega arith
joined_length (Lacking ∷ ss) n c h f = absurd cc
joined_length (Asked ∷ ss) n c h f = absurd cc
joined_length (Rejected ∷ ss) n c h f = absurd cc
joined_length (Held b ∷ ss) n c h f =
    let first : length b ≡ min 16384 (n - 16384 * 0) = f 0 b refl in
    let rest : length (joined ss) ≡ n - 16384 = joined_length ss (n - 16384) (omega arith) h (λ k x e. let l = f (suc k) x e in omega (arith, l)) in
    omega (arith, length-append b (joined ss), first, rest)

got_within : (ss : List Slot) (k : ℕ) (x : Slot) → slice_get ss k ≡ Some x → k < length ss
got_within [] k x e = absurd cc
got_within (s ∷ ss) zero x e = omega arith
got_within (s ∷ ss) (suc k) x e = let l = got_within ss k x e in omega (arith, l)

-- the held blocks of an assembly
fits : (a : AssemblyState) → IsAssembly a → Fits a.slots a.size
unfolding Fits
fits a i k b e =
    let l : k < block_count a.size = omega (arith, got_within a.slots k (Held b) e, i.count) in
    i.held k b e ∙ sym (block_len_is a.size k l)

-- the whole has the stated size
pub whole_length : (a : AssemblyState) → IsAssembly a → is_whole a ≡ true → length (joined a.slots) ≡ a.size
whole_length a i w = joined_length a.slots a.size i.count w (fits a i)

found : List ℕ → Part → List ℕ
found d Watching = d
found d (Serving m) = d
found d (Awaiting most) = d
found d (Fetching a) = d
found d (Fetched m) = m

unfoldable pub is_fetched : Part → Bool
is_fetched Watching = false
is_fetched (Serving m) = false
is_fetched (Awaiting most) = false
is_fetched (Fetching a) = false
is_fetched (Fetched m) = true

by_digest : (a : AssemblyState) (m : List ℕ) (t : Bool) → bytes_eq (sha1 (joined a.slots)) a.info_hash ≡ t →
    (if t then Fetched (joined a.slots) else Fetching (emptied a)) ≡ Fetched m → (m ≡ joined a.slots) × (sha1 m ≡ a.info_hash)
unfolding found is_fetched
by_digest a m true e f =
    let j : joined a.slots ≡ m = ap (found []) f in
    (sym j, sym (ap sha1 j) ∙ (bytes_eq-Decides (sha1 (joined a.slots)) a.info_hash).0 e)
by_digest a m false e f = let b : false ≡ true = ap is_fetched f in absurd cc

by_whole : (a : AssemblyState) (m : List ℕ) (t : Bool) → IsAssembly a → is_whole a ≡ t →
    (if t then (if bytes_eq (sha1 (joined a.slots)) a.info_hash then Fetched (joined a.slots) else Fetching (emptied a)) else Fetching a) ≡ Fetched m
    → IsFinished a m
unfolding is_fetched
by_whole a m true i e f =
    let d = by_digest a m (bytes_eq (sha1 (joined a.slots)) a.info_hash) refl f in
    let size = whole_length a i e in
    record { held = e; joins = d.0; size = ap (length {A = ℕ}) d.0 ∙ size; right = d.1 }
by_whole a m false i e f = let b : false ≡ true = ap is_fetched f in absurd cc

-- when each block is held the metadata is there, of the stated size
pub concluded_finished : (a : AssemblyState) (metadata : List ℕ) → IsAssembly a → concluded a ≡ Fetched metadata → IsFinished a metadata
concluded_finished a m i e = by_whole a m (is_whole a) i refl e

-- how far a fetch has come
pub progress_bounds : (h : List ℕ) (p : Part) → IsPartOf h p → IfSome (progress_of p) (λ g. (0 < g.size) × (g.size ≤ max_metadata) × (g.held ≤ g.blocks))
progress_bounds h Watching i = tt
progress_bounds h (Serving m) i = tt
progress_bounds h (Awaiting most) i = tt
progress_bounds h (Fetching a) i = (i.assembly.least, i.assembly.most, omega (arith, count_by-le-length is_held a.slots, i.assembly.count))
progress_bounds h (Fetched m) i = (i.least, i.most, omega arith)
