-- The laws of served blocks.
use Rattle.std.proofs.Common.{◌≡◌, ℕ, zero, suc, ◌+◌, ◌*◌, ◌<◌, ◌≤◌, ◌==◌, ◌⊎◌, inl, inr, true, if◌then◌else◌, List, [], ◌∷◌, ◌++◌, length, take, drop, set}
use Rattle.std.proofs.Common.{min, Option, Some, None, slice_get, refl, sym, ap, subst, ◌∙◌, arith, length-take, length-drop}
use Rattle.std.specs.List.{list_all}
use Rattle.std.proofs.lemmas.Bool.{eq-eqb, lt-leb}
use Rattle.std.proofs.lemmas.Grind.{common_steps}
use Rattle.std.proofs.lemmas.List.{take-append-drop, drop-drop}
use Rattle.bt_ext.specs.Metadata.{block_count, block_len}
use Rattle.bt_metadata.specs.declared.assembly.BlockError.{BlockError}
use Rattle.bt_metadata.specs.declared.assembly.BlockError.TheVariants.{PieceRange, NotAsked, WrongTotal, WrongSize}
use Rattle.bt_metadata.specs.Blocks.{block_size, block}
use Rattle.bt_metadata.specs.Assemblies.{Slot, Lacking, Asked, Rejected, Held, AssemblyState, is_held, is_asked_in, joined, data_error, piece_error}
use Rattle.bt_metadata.specs.Assemblies.{size_error, or_else, unless_wrong, with_slots}
use Rattle.bt_metadata.specs.Laws.{HoldsBlocksOf, WholeIsServed, ServedIsTaken, ServedIsHeld}
use Rattle.bt_metadata.proofs.Lengths.{count_covers, block_len_is}

-- a later block is one of what follows the first
later_block : (m : List ℕ) (k : ℕ) → block m (suc k) ≡ block (drop block_size m) k
later_block m k =
    let e : block_size * suc k ≡ block_size + block_size * k = omega arith in
    ap (λ n. take block_size (drop n m)) e ∙ ap (take block_size) (sym (drop-drop (block_size * k) block_size m))

joined_blocks : (ss : List Slot) (m : List ℕ) → list_all is_held ss ≡ true → length m ≤ block_size * length ss
    → ((k : ℕ) (b : List ℕ) → slice_get ss k ≡ Some (Held b) → b ≡ block m k) →
    joined ss ≡ m
joined_blocks [] m h l f = grind (arith, common_steps)
joined_blocks (Held b ∷ ss) m h l f =
    let e : b ≡ take block_size m = f 0 b refl in
    let i = joined_blocks ss (drop block_size m) h (omega (arith, length-drop block_size m)) (λ k c g. f (suc k) c g ∙ later_block m k) in
    ap (λ x. x ++ joined ss) e ∙ ap (λ x. take block_size m ++ x) i ∙ take-append-drop block_size m
joined_blocks (Lacking ∷ ss) m h l f = absurd cc
joined_blocks (Asked ∷ ss) m h l f = absurd cc
joined_blocks (Rejected ∷ ss) m h l f = absurd cc

pub whole_is_served : WholeIsServed
whole_is_served m a i s f w =
    let c : length a.slots ≡ block_count (length m) = i.count ∙ ap block_count s in
    joined_blocks a.slots m w (subst (λ n. length m ≤ block_size * n) (sym c) (count_covers (length m))) f

-- a block's length
block_length : (m : List ℕ) (k : ℕ) → k < block_count (length m) → length (block m k) ≡ block_len (length m) k
block_length m k h =
    length-take block_size (drop (block_size * k) m) ∙ ap (min block_size) (length-drop (block_size * k) m) ∙ block_len_is (length m) k h

pub served_is_taken : ServedIsTaken
served_is_taken m a piece total b i s r q =
    let n : piece < length a.slots = subst (λ x. piece < x) (sym (i.count ∙ ap block_count s)) r.0 in
    let p : piece_error a piece ≡ None =
    ap (λ t. if t then Some PieceRange else (if is_asked_in (slice_get a.slots piece) then None else Some NotAsked)) (lt-leb (length a.slots) piece n)
    ∙ ap (λ t. if t then None else Some NotAsked) q in
    let z : length b.now ≡ block_len a.size piece = ap length r.2 ∙ block_length m piece r.0 ∙ ap (λ x. block_len x piece) (sym s) in
    ap (λ (o : Option BlockError). or_else o (size_error a piece total (length b.now))) p
    ∙ ap (λ t. if t then (if length b.now == block_len a.size piece then None else Some WrongSize) else Some WrongTotal) (eq-eqb total a.size (r.1 ∙ sym s))
    ∙ ap (λ t. if t then None else Some WrongSize) (eq-eqb (length b.now) (block_len a.size piece) z)

further : {i k : ℕ} {P Q : Type 0} → ((k ≡ i) × P) ⊎ Q → ((suc k ≡ suc i) × P) ⊎ Q
further (inl p) = inl (ap suc p.0, p.1)
further (inr q) = inr q

-- what is found where one is set
pub found : (ss : List Slot) (i k : ℕ) (y : Slot) (b : List ℕ) → slice_get (set ss i y) k ≡ Some (Held b) → ((k ≡ i) × (y ≡ Held b))
    ⊎ (slice_get ss k ≡ Some (Held b))
found [] i k y b h = inr h
found (s ∷ ss) zero zero y b h = inl (refl, cc)
found (s ∷ ss) zero (suc k) y b h = inr h
found (s ∷ ss) (suc i) zero y b h = inr h
found (s ∷ ss) (suc i) (suc k) y b h = further (found ss i k y b h)

pub held_apart : (m : List ℕ) (piece k : ℕ) (x b : List ℕ) (Q : Type 0) → x ≡ block m piece → (Q → b ≡ block m k) → ((k ≡ piece) × (Held x ≡ Held b)) ⊎ Q
    → b ≡ block m k
held_apart m piece k x b Q e f (inl p) = let w : b ≡ x = cc in w ∙ e ∙ ap (block m) (sym p.0)
held_apart m piece k x b Q e f (inr q) = f q

pub unless : (m : List ℕ) (a : AssemblyState) (piece : ℕ) (x : List ℕ) → HoldsBlocksOf m a → x ≡ block m piece → (o : Option BlockError) →
    HoldsBlocksOf m (unless_wrong o (with_slots a (set a.slots piece (Held x))) a)
unless m a piece x f e None k b h = held_apart m piece k x b (slice_get a.slots k ≡ Some (Held b)) e (f k b) (found a.slots piece k (Held x) b h)
unless m a piece x f e (Some w) k b h = f k b h

pub served_is_held : ServedIsHeld
served_is_held m a piece total b f r = unless m a piece b.now f r.2 (data_error a piece total b.now)
