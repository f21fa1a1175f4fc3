-- The states that statuses and bytes stand for.
use Rattle.std.proofs.Common.{◌≡◌, ℕ, ◌-◌, ◌*◌, ◌<◌, ◌==◌, if◌then◌else◌, Option, Some, None, List, length, map, replicate, set, count_by, position, nat_lt}
use Rattle.std.proofs.Common.{min, refl, sym, ap, ◌∙◌, arith}
use Rattle.std.proofs.lemmas.Bool.{ne_eqb, eq-eqb}
use Rattle.std.proofs.lemmas.List.{length-replicate}
use Rattle.bt_ext.specs.Metadata.{block_count, block_len}
use Rattle.bt_metadata.specs.declared.assembly.BlockError.{BlockError}
use Rattle.bt_metadata.specs.declared.assembly.BlockError.TheVariants.{WrongTotal, WrongSize}
use Rattle.bt_metadata.specs.declared.assembly.Status.{Status}
use Rattle.bt_metadata.specs.declared.assembly.Status.TheVariants as status
use Rattle.bt_metadata.specs.Blocks.{window}
use Rattle.bt_metadata.specs.Assemblies.{Slot, Asked, Rejected, Held, is_lacking, with_slots, started, emptied, disconnected, piece_error, size_error}
use Rattle.bt_metadata.specs.Assemblies.{data_error, or_else, unless_wrong, with_reject, with_data, ask_of, asking}
use Rattle.bt_metadata.specs.Sound.{state_of, slots_of, kept_status, error_at, lacks, asks}
use Rattle.bt_metadata.proofs.Slots.{length-slots, kept-slots, lacking-slots, asks_at-slots, count_asked-slots, first_lacking-slots, set-slots, hold-slots}
use Rattle.bt_metadata.proofs.Slots.{paste, length-paste}
use Rattle.bt_metadata.proofs.Lengths.{block_starts}

pub disconnected_is : (h d : List ℕ) (ss : List Status) → state_of h d (map kept_status ss) ≡ disconnected (state_of h d ss)
disconnected_is h d ss = ap (λ (x : List Slot). with_slots (state_of h d ss) x) (kept-slots ss d)

pub started_is : (h d : List ℕ) (ss : List Status) (size n : ℕ) → d ≡ replicate size 0 → ss ≡ replicate n status.Lacking → n ≡ block_count size
    → state_of h d ss ≡ started h size
started_is h d ss size n e f c =
    ap (λ (x : List ℕ). state_of h x ss) e ∙ ap (λ (x : List Status). state_of h (replicate size 0) x) (f ∙ ap (λ m. replicate m status.Lacking) c)
    ∙ ap (λ m. record { size = m; info_hash = h; slots = slots_of (replicate (block_count size) status.Lacking) (replicate size 0) }) (length-replicate size 0)
    ∙ ap (λ (x : List Slot). with_slots (started h size) x) (lacking-slots (block_count size) (replicate size 0))

pub emptied_is : (h d : List ℕ) (ss : List Status) → length ss ≡ block_count (length d) → state_of h d (replicate (length ss) status.Lacking)
    ≡ emptied (state_of h d ss)
emptied_is h d ss c =
    ap (λ m. state_of h d (replicate m status.Lacking)) c ∙ ap (λ (x : List Slot). with_slots (started h (length d)) x)
    (lacking-slots (block_count (length d)) d)

-- ---- what is wrong

pub error_is : (h d : List ℕ) (ss : List Status) (piece : ℕ) → piece_error (state_of h d ss) piece ≡ error_at ss piece
error_is h d ss piece = rw (length-slots ss d, asks_at-slots ss d piece) refl

pub refused_is : (h d b : List ℕ) (ss : List Status) (piece total : ℕ) (e : BlockError) → error_at ss piece ≡ Some e
    → data_error (state_of h d ss) piece total b ≡ Some e
refused_is h d b ss piece total e r =
    ap (λ (o : Option BlockError). or_else o (size_error (state_of h d ss) piece total (length b))) (error_is h d ss piece ∙ r)

sized : (h d b : List ℕ) (ss : List Status) (piece total : ℕ) → error_at ss piece ≡ None → data_error (state_of h d ss) piece total b
    ≡ size_error (state_of h d ss) piece total (length b)
sized h d b ss piece total r =
    ap (λ (o : Option BlockError). or_else o (size_error (state_of h d ss) piece total (length b))) (error_is h d ss piece ∙ r)

pub wrong_total_is : (h d b : List ℕ) (ss : List Status) (piece total : ℕ) → error_at ss piece ≡ None → (total ≡ length d → ⊥)
    → data_error (state_of h d ss) piece total b ≡ Some WrongTotal
wrong_total_is h d b ss piece total r n =
    sized h d b ss piece total r
    ∙ ap (λ t. if t then (if length b == block_len (length d) piece then None else Some WrongSize) else Some WrongTotal) (ne_eqb total (length d) n)

pub wrong_size_is : (h d b : List ℕ) (ss : List Status) (piece total : ℕ) → error_at ss piece ≡ None → total ≡ length d
    → (length b ≡ block_len (length d) piece → ⊥) → data_error (state_of h d ss) piece total b ≡ Some WrongSize
wrong_size_is h d b ss piece total r t n =
    sized h d b ss piece total r
    ∙ ap (λ t. if t then (if length b == block_len (length d) piece then None else Some WrongSize) else Some WrongTotal) (eq-eqb total (length d) t)
    ∙ ap (λ t. if t then None else Some WrongSize) (ne_eqb (length b) (block_len (length d) piece) n)

pub nothing_wrong : (h d b : List ℕ) (ss : List Status) (piece total : ℕ) → error_at ss piece ≡ None → total ≡ length d → length b
    ≡ block_len (length d) piece → data_error (state_of h d ss) piece total b ≡ None
nothing_wrong h d b ss piece total r t n =
    sized h d b ss piece total r
    ∙ ap (λ t. if t then (if length b == block_len (length d) piece then None else Some WrongSize) else Some WrongTotal) (eq-eqb total (length d) t)
    ∙ ap (λ t. if t then None else Some WrongSize) (eq-eqb (length b) (block_len (length d) piece) n)

-- ---- a block is asked, rejected or held

pub asked_is : (h d : List ℕ) (ss : List Status) (k : ℕ) → state_of h d (set ss k status.Asked) ≡ with_slots (state_of h d ss) (asking (Some k) (slots_of ss d))
asked_is h d ss k = ap (λ (x : List Slot). with_slots (state_of h d ss) x) (set-slots ss d k status.Asked Asked (λ b. refl))

pub ask_is : (d : List ℕ) (ss : List Status) → ask_of (slots_of ss d) ≡ (if nat_lt (count_by asks ss) window then position lacks ss else None)
ask_is d ss = ap (λ n. if nat_lt n window then position is_lacking (slots_of ss d) else None) (count_asked-slots ss d)
    ∙ ap (λ (o : Option ℕ). if nat_lt (count_by asks ss) window then o else None) (first_lacking-slots ss d)

pub rejected_is : (h d : List ℕ) (ss : List Status) (piece : ℕ) → error_at ss piece ≡ None → state_of h d (set ss piece status.Rejected)
    ≡ with_reject (state_of h d ss) piece
rejected_is h d ss piece r =
    let a = state_of h d ss in
    ap (λ (x : List Slot). with_slots a x) (set-slots ss d piece status.Rejected Rejected (λ b. refl))
    ∙ sym (ap (λ (o : Option BlockError). unless_wrong o (with_slots a (set (slots_of ss d) piece Rejected)) a) (error_is h d ss piece ∙ r))

pub not_rejected : (h d : List ℕ) (ss : List Status) (piece : ℕ) (e : BlockError) → error_at ss piece ≡ Some e → state_of h d ss
    ≡ with_reject (state_of h d ss) piece
not_rejected h d ss piece e r =
    let a = state_of h d ss in
    sym (ap (λ (o : Option BlockError). unless_wrong o (with_slots a (set (slots_of ss d) piece Rejected)) a) (error_is h d ss piece ∙ r))

pub held_is : (h d b : List ℕ) (ss : List Status) (piece total : ℕ) → piece < length ss → length ss ≡ block_count (length d) → length b
    ≡ min 16384 (length d - 16384 * piece) →
    data_error (state_of h d ss) piece total b ≡ None → state_of h (paste d (16384 * piece) b) (set ss piece status.Held)
    ≡ with_data (state_of h d ss) piece total b
held_is h d b ss piece total l c n r =
    let a = state_of h d ss in
    let s : 16384 * piece < length d = block_starts (length d) piece (rw (← c) l) in
    let e : length (paste d (16384 * piece) b) ≡ length d = length-paste d b (16384 * piece) (omega arith) in
    ap (λ m. record { size = m; info_hash = h; slots = slots_of (set ss piece status.Held) (paste d (16384 * piece) b) }) e
    ∙ ap (λ (x : List Slot). with_slots a x) (hold-slots ss d b piece l (omega arith) n)
    ∙ sym (ap (λ (o : Option BlockError). unless_wrong o (with_slots a (set (slots_of ss d) piece (Held b))) a) r)

pub not_held : (h d b : List ℕ) (ss : List Status) (piece total : ℕ) (e : BlockError) → data_error (state_of h d ss) piece total b ≡ Some e
    → state_of h d ss ≡ with_data (state_of h d ss) piece total b
not_held h d b ss piece total e r =
    let a = state_of h d ss in
    sym (ap (λ (o : Option BlockError). unless_wrong o (with_slots a (set (slots_of ss d) piece (Held b))) a) r)
