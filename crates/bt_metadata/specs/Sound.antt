-- What is so of every assembly; and for private contracts and the invariant alone, its private fields.
use Rattle.std.specs.Prelude.{◌≡◌, ℕ, ◌+◌, ◌-◌, ◌*◌, ◌<◌, ◌≤◌, Bool, true, false, if◌then◌else◌, List, [], ◌∷◌, length, take, drop, count_by, slice_get, nat_le, min, Option}
use Rattle.std.specs.Prelude.{Some, None}
use Rattle.std.specs.List.{position_or_len}
use Rattle.bt_ext.specs.Metadata.{block_count, block_len}
use Rattle.bt_metadata.specs.Blocks.{block_size, max_metadata, window}
use Rattle.bt_metadata.specs.Assemblies.{Slot, Lacking, Asked, Rejected, Held, AssemblyState, is_asked}
use Rattle.bt_metadata.specs.declared.assembly.BlockError.{BlockError}
use Rattle.bt_metadata.specs.declared.assembly.BlockError.TheVariants.{PieceRange, NotAsked}
use Rattle.bt_metadata.specs.declared.assembly.Status.{Status}
use Rattle.bt_metadata.specs.declared.assembly.Status.TheVariants as status
use Rattle.bt_metadata.specs.declared.assembly.Tally.{Tally}
use Rattle.bt_metadata.specs.declared.assembly.Assembly.TheInside.{Inside}

pub record IsAssembly (a : AssemblyState) : Type 0 where
  pub least : 0 < a.size
  pub most : a.size ≤ max_metadata
  pub count : length a.slots ≡ block_count a.size
  pub held : (k : ℕ) (b : List ℕ) → slice_get a.slots k ≡ Some (Held b) → length b ≡ block_len a.size k
  pub asked : count_by is_asked a.slots ≤ window

-- ---- the private fields of an assembly: a status for each block, and the bytes of all

abbrev pub slot_of : Status → List ℕ → Slot
slot_of status.Lacking b = Lacking
slot_of status.Asked b = Asked
slot_of status.Rejected b = Rejected
slot_of status.Held b = Held b

abbrev pub slots_of : List Status → List ℕ → List Slot
slots_of [] d = []
slots_of (s ∷ ss) d = slot_of s (take block_size d) ∷ slots_of ss (drop block_size d)

abbrev pub state_of : List ℕ → List ℕ → List Status → AssemblyState
state_of info_hash d ss = record { size = length d; info_hash = info_hash; slots = slots_of ss d }

abbrev pub lacks : Status → Bool
lacks status.Lacking = true
lacks status.Asked = false
lacks status.Rejected = false
lacks status.Held = false

abbrev pub asks : Status → Bool
asks status.Lacking = false
asks status.Asked = true
asks status.Rejected = false
asks status.Held = false

abbrev pub holds : Status → Bool
holds status.Lacking = false
holds status.Asked = false
holds status.Rejected = false
holds status.Held = true

abbrev pub rejects : Status → Bool
rejects status.Lacking = false
rejects status.Asked = false
rejects status.Rejected = true
rejects status.Held = false

abbrev pub settles : Status → Bool
settles status.Lacking = false
settles status.Asked = false
settles status.Rejected = true
settles status.Held = true

abbrev pub holds_at : Option Status → Bool
holds_at None = false
holds_at (Some s) = holds s

abbrev pub kept_status : Status → Status
kept_status status.Lacking = status.Lacking
kept_status status.Asked = status.Lacking
kept_status status.Rejected = status.Lacking
kept_status status.Held = status.Held

abbrev pub asks_at : Option Status → Bool
asks_at None = false
asks_at (Some s) = asks s

-- what is wrong with a number
abbrev pub error_at : List Status → ℕ → Option BlockError
error_at ss piece =
    if nat_le (length ss) piece then Some PieceRange else (if asks_at (slice_get ss piece) then None else Some NotAsked)

-- ---- the counts that are kept beside the statuses

-- each count is right, and no block before `lowest` is lacking
pub record IsTallied (t : Tally) (ss : List Status) : Type 0 where
  pub asked : t.asked ≡ count_by asks ss
  pub held : t.held ≡ count_by holds ss
  pub rejected : t.rejected ≡ count_by rejects ss
  pub lowest : t.lowest ≤ position_or_len lacks ss

abbrev pub no_tally : Tally
no_tally = record { asked = 0; held = 0; rejected = 0; lowest = 0 }

-- the block at k is asked for, the first that is lacking
abbrev pub after_ask : Tally → ℕ → Tally
after_ask t k = record t { asked = t.asked + 1; lowest = k + 1 }

-- a block that was asked for is held
abbrev pub after_hold : Tally → Tally
after_hold t = record t { asked = t.asked - 1; held = t.held + 1 }

-- a block that was asked for is rejected
abbrev pub after_reject : Tally → Tally
after_reject t = record t { asked = t.asked - 1; rejected = t.rejected + 1 }

-- what is asked and rejected is lacking again
abbrev pub after_forget : Tally → Tally
after_forget t = record t { asked = 0; rejected = 0; lowest = 0 }

abbrev pub settles_at : Option Status → Bool
settles_at None = false
settles_at (Some s) = settles s

-- each block that is held or rejected is in memory: its end is within the bytes that are written
abbrev pub AreWritten : List Status → ℕ → ℕ → Type 0
AreWritten ss size written = (k : ℕ) → settles_at (slice_get ss k) ≡ true → min (block_size * k + block_size) size ≤ written

pub record IsSound {A : Type 0} (a : Inside A) : Type 0 where
  pub least : 0 < length a.bytes.whole
  pub most : length a.bytes.whole ≤ max_metadata
  pub count : length a.states.items ≡ block_count (length a.bytes.whole)
  pub asked : count_by asks a.states.items ≤ window
  pub tallied : IsTallied a.tally a.states.items
  pub written : AreWritten a.states.items (length a.bytes.whole) a.bytes.written
