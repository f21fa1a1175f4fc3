-- Metadata that is put together from its blocks.
use Rattle.std.specs.Prelude.{◌≡◌, ℕ, ◌==◌, nat_le, nat_lt, Bool, true, false, if◌then◌else◌, List, [], ◌∷◌, ◌++◌, length, map, replicate, count_by}
use Rattle.std.specs.Prelude.{slice_set, slice_get, position, Option, Some, None, option_and_then}
use Rattle.std.specs.List.{list_all}
use Rattle.sha1.specs.Sha1.{sha1}
use Rattle.bt_ext.specs.Metadata.{block_count, block_len}
use Rattle.bt_metadata.specs.Blocks.{window}
use Rattle.bt_metadata.specs.declared.assembly.BlockError.{BlockError}
use Rattle.bt_metadata.specs.declared.assembly.BlockError.TheVariants.{PieceRange, NotAsked, WrongTotal, WrongSize}

-- what is known of a block
pub data Slot : Type 0 where
  Lacking : Slot
  Asked : Slot
  Rejected : Slot
  Held : (bytes : List ℕ) → Slot

-- the size of the metadata, its SHA-1, and what is known of each block
pub record AssemblyState : Type 0 where
  pub size : ℕ
  pub info_hash : List ℕ
  pub slots : List Slot

abbrev pub is_lacking : Slot → Bool
is_lacking Lacking = true
is_lacking Asked = false
is_lacking Rejected = false
is_lacking (Held b) = false

abbrev pub is_asked : Slot → Bool
is_asked Lacking = false
is_asked Asked = true
is_asked Rejected = false
is_asked (Held b) = false

abbrev pub is_held : Slot → Bool
is_held Lacking = false
is_held Asked = false
is_held Rejected = false
is_held (Held b) = true

-- it is held or rejected: it can't come any more on this connection
abbrev pub is_settled : Slot → Bool
is_settled Lacking = false
is_settled Asked = false
is_settled Rejected = true
is_settled (Held b) = true

-- nothing is held, asked or rejected
abbrev pub started : List ℕ → ℕ → AssemblyState
started info_hash size = record { size = size; info_hash = info_hash; slots = replicate (block_count size) Lacking }

-- ---- asking

-- the block to ask for, the first that is neither held, asked nor rejected: none while as many are asked as may be
abbrev pub ask_of : List Slot → Option ℕ
ask_of ss = if nat_lt (count_by is_asked ss) window then position is_lacking ss else None

abbrev pub asking : Option ℕ → List Slot → List Slot
asking None ss = ss
asking (Some k) ss = slice_set ss k Asked

abbrev pub with_slots : AssemblyState → List Slot → AssemblyState
with_slots a ss = record a { slots = ss }

-- ---- blocks that come

abbrev pub is_asked_in : Option Slot → Bool
is_asked_in None = false
is_asked_in (Some s) = is_asked s

-- what is wrong with a number: there is no such block, or it wasn't asked for
abbrev pub piece_error : AssemblyState → ℕ → Option BlockError
piece_error a piece =
    if nat_le (length a.slots) piece then Some PieceRange else
    (if is_asked_in (slice_get a.slots piece) then None else Some NotAsked)

-- what is wrong with a block that was asked for
abbrev pub size_error : AssemblyState → ℕ → ℕ → ℕ → Option BlockError
size_error a piece total size =
    if total == a.size then (if size == block_len a.size piece then None else Some WrongSize) else Some WrongTotal

abbrev pub or_else : Option BlockError → Option BlockError → Option BlockError
or_else (Some e) o = Some e
or_else None o = o

abbrev pub data_error : AssemblyState → ℕ → ℕ → List ℕ → Option BlockError
data_error a piece total block = or_else (piece_error a piece) (size_error a piece total (length block))

-- the new state, where nothing is wrong
abbrev pub unless_wrong : Option BlockError → AssemblyState → AssemblyState → AssemblyState
unless_wrong None new old = new
unless_wrong (Some e) new old = old

abbrev pub with_data : AssemblyState → ℕ → ℕ → List ℕ → AssemblyState
with_data a piece total block =
    unless_wrong (data_error a piece total block) (with_slots a (slice_set a.slots piece (Held block))) a

abbrev pub with_reject : AssemblyState → ℕ → AssemblyState
with_reject a piece = unless_wrong (piece_error a piece) (with_slots a (slice_set a.slots piece Rejected)) a

-- ---- a new connection: what is asked and rejected is forgotten

abbrev pub kept : Slot → Slot
kept Lacking = Lacking
kept Asked = Lacking
kept Rejected = Lacking
kept (Held b) = Held b

abbrev pub disconnected : AssemblyState → AssemblyState
disconnected a = with_slots a (map kept a.slots)

-- ---- held blocks

-- the bytes of a block that is held
abbrev pub block_in : Slot → Option (List ℕ)
block_in Lacking = None
block_in Asked = None
block_in Rejected = None
block_in (Held b) = Some b

-- the block of this number, where it is held
abbrev pub held_block : AssemblyState → ℕ → Option (List ℕ)
held_block a piece = option_and_then block_in (slice_get a.slots piece)

-- ---- the end

abbrev pub bytes_in : Slot → List ℕ
bytes_in Lacking = []
bytes_in Asked = []
bytes_in Rejected = []
bytes_in (Held b) = b

-- the held blocks, one after the other
abbrev pub joined : List Slot → List ℕ
joined [] = []
joined (s ∷ ss) = bytes_in s ++ joined ss

abbrev pub is_whole : AssemblyState → Bool
is_whole a = list_all is_held a.slots

-- the whole is what the info hash says
abbrev pub IsRight : AssemblyState → Type 0
IsRight a = sha1 (joined a.slots) ≡ a.info_hash

-- each block is held, and the whole has the stated size and the info hash as its SHA-1
pub record IsFinished (a : AssemblyState) (metadata : List ℕ) : Type 0 where
  pub held : is_whole a ≡ true
  pub joins : metadata ≡ joined a.slots
  pub size : length metadata ≡ a.size
  pub right : sha1 metadata ≡ a.info_hash

abbrev pub emptied : AssemblyState → AssemblyState
emptied a = started a.info_hash a.size
