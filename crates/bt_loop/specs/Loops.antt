-- What `loop` does: its ends, and what it writes.
use Rattle.std.specs.Prelude.{◌≡◌, ◌⊎◌, ℕ, ◌+◌, ◌*◌, ◌≤◌, true, false, ⊤, List, ◌++◌, length, codes, decimal, Option, Some, None, Result, Ok, Err}
use Rattle.std.specs.Io.KnownBytes.{Consumes, Appends}
use Rattle.std.specs.Global.{Vec}
use Rattle.sha1.specs.Sha1.{sha1}
use Rattle.hex.specs.Hex.{encode_lower}
use Rattle.bt_ext.specs.declared.ids.Rules.{Rules}
use Rattle.bt_ext.specs.Ids.{metadata_only}
use Rattle.bt_wire.specs.declared.context.Own.{Own}
use Rattle.bt_wire.specs.declared.handshake.Handshake.{Handshake}
use Rattle.bt_metadata.specs.Blocks.{window, max_metadata}
use Rattle.bt_end.specs.declared.config.Announce.TheVariants.{Silent}
use Rattle.bt_end.specs.Configs.{is_bad_size}
use Rattle.bt_end.specs.Ends.{EndState, Serving, Awaiting, unopened, metadata_of}
use Rattle.bt_end.specs.Halves.{HalfState, connected}
use Rattle.bt_io.specs.Counts.{Grew}
use Rattle.bt_io.specs.Seen.{AppendsPrefix}
use Rattle.bt_session.specs.FetchLaws.{IsFetchPair, most_bytes}
use Rattle.bt_text.specs.declared.ended.ToolFault.{ToolFault}
use Rattle.bt_text.specs.declared.ended.ToolFault.TheVariants as fault
use Rattle.bt_loop.specs.declared.looped.LoopEnd.{LoopEnd}
use Rattle.bt_loop.specs.declared.looped.LoopEnd.TheVariants.{Fetched, Unfetched, BadSize}
use Rattle.bt_loop.specs.declared.both.Handled.{Handled}
use Rattle.bt_loop.specs.declared.both.Halt.{Halt}
use Rattle.bt_loop.specs.declared.both.Halt.TheVariants as halt
use Rattle.bt_loop.specs.Wires.{WireSeen}
use Rattle.bt_loop.specs.Rounds.{HasRun, capped}
use Rattle.bt_loop.specs.Runs.{IsClear}

-- ---- the ends

abbrev pub own_by : Rules → ℕ → List ℕ → ℕ → Own
own_by rules limit hash id = record {
  reserved = record { 0 = 1048581 };
  info_hash = Some hash;
  pieces = None;
  reg = metadata_only (Some id);
  rules = rules;
  limit = limit;
}

abbrev pub handshake_by : List ℕ → List ℕ → Handshake
handshake_by hash peer_id = record { reserved = record { 0 = 1048581 }; info_hash = hash; peer_id = peer_id }

-- the left end serves the metadata
abbrev pub left_end : Rules → ℕ → List ℕ → HalfState
left_end rules limit metadata =
    connected (unopened (own_by rules limit (sha1 metadata) 3) (handshake_by (sha1 metadata) (codes "-BT0001-LLLLLLLLLLLL")) Silent window (Serving metadata))

-- the right end fetches metadata of this SHA-1
abbrev pub right_end : Rules → ℕ → List ℕ → HalfState
right_end rules limit hash = connected (unopened (own_by rules limit hash 9) (handshake_by hash (codes "-BT0001-RRRRRRRRRRRR")) Silent window (Awaiting max_metadata))

-- ---- what is written

-- how many items an end sent, and how many it handled
abbrev pub count_line : List ℕ → ℕ → ℕ → List ℕ
count_line name sent handled = name ++ (codes " sent=" ++ (decimal sent ++ (codes " handled=" ++ (decimal handled ++ codes "\n"))))

abbrev pub fetched_line : List ℕ → List ℕ
fetched_line metadata = (codes "fetched bytes=" ++ decimal (length metadata)) ++ (codes " sha1=" ++ (encode_lower (sha1 metadata) ++ codes "\n"))

-- The metadata's size and SHA-1, and the items of both ends, of which the left one handled `left` and the right one `right`.
-- Nothing is under way any more, so what one end handled the other sent.
abbrev pub fetched_lines : List ℕ → ℕ → ℕ → List ℕ
fetched_lines metadata left right = fetched_line metadata ++ (count_line (codes "left") right left ++ count_line (codes "right") left right)

abbrev pub unfetched_line : List ℕ
unfetched_line = codes "unfetched\n"

-- as many rounds as may be made
abbrev pub most_rounds : ℕ
most_rounds = 1048576

-- The ends that began as `l` and `r` were run over the wire, of which `s` was seen before and `t` after. Nothing is under way any more,
-- and the right one has this metadata. They handled `left` and `right` items.
pub record IsFetched (s t : WireSeen) (l r : HalfState) (metadata : List ℕ) (left right : ℕ) : Type 0 where
  pub left_half : HalfState
  pub right_half : HalfState
  pub run : HasRun most_rounds s t l left_half r right_half (Ok (record { left = left; right = right }))
  pub there : metadata_of right_half.end.part ≡ Some metadata

-- no metadata is there, or an end stopped
abbrev pub IsWithout : HalfState → Result Handled Halt → Type 0
IsWithout right (Ok h) = metadata_of right.end.part ≡ None
IsWithout right (Err halt.Stopped) = ⊤
IsWithout right (Err other) = ⊥

-- The run ended with no metadata at the right end: nothing is under way any more, or an end stopped.
pub record IsUnfetched (s t : WireSeen) (l r : HalfState) : Type 0 where
  pub left_half : HalfState
  pub right_half : HalfState
  pub result : Result Handled Halt
  pub run : HasRun most_rounds s t l left_half r right_half result
  pub why : IsWithout right_half result

-- as many rounds were made as may be
pub record IsUnended (s t : WireSeen) (l r : HalfState) : Type 0 where
  pub left_half : HalfState
  pub right_half : HalfState
  pub run : HasRun most_rounds s t l left_half r right_half (Err halt.Rounds)

-- the lines of a fetch, or the line of none
abbrev pub IsOutput : WireSeen → WireSeen → HalfState → HalfState → List ℕ → Type 0
IsOutput s t l r lines =
    ((metadata : List ℕ) × (left : ℕ) × (right : ℕ) × IsFetched s t l r metadata left right × (lines ≡ fetched_lines metadata left right))
    ⊎ (IsUnfetched s t l r × (lines ≡ unfetched_line))

-- what two ends write that began so, and were run over a wire
abbrev pub IsLinked : WireSeen → WireSeen → HalfState → HalfState → Option (List ℕ) → Option (List ℕ) → Result LoopEnd ToolFault → Type 0
IsLinked s t l r held held' (Ok Fetched) =
    (metadata : List ℕ) × (left : ℕ) × (right : ℕ) × IsFetched s t l r metadata left right × Appends held held' (fetched_lines metadata left right)
IsLinked s t l r held held' (Ok Unfetched) = IsUnfetched s t l r × Appends held held' unfetched_line
IsLinked s t l r held held' (Ok BadSize) = ⊥
IsLinked s t l r held held' (Err fault.Write) = (lines : List ℕ) × IsOutput s t l r lines × AppendsPrefix held held' lines
IsLinked s t l r held held' (Err fault.Read) = ⊥
IsLinked s t l r held held' (Err fault.Turns) = IsUnended s t l r × (held' ≡ held)
IsLinked s t l r held held' (Err fault.Net) = held' ≡ held
IsLinked s t l r held held' (Err fault.Memory) = held' ≡ held

-- what comes of metadata that was read
abbrev pub IsLooped : WireSeen → WireSeen → Rules → ℕ → List ℕ → Option (List ℕ) → Option (List ℕ) → Result LoopEnd ToolFault → Type 0
IsLooped s t rules limit text held held' (Ok BadSize) = (is_bad_size (length text) ≡ true) × (held' ≡ held) × (t ≡ s)
IsLooped s t rules limit text held held' (Err fault.Read) = held' ≡ held
IsLooped s t rules limit text held held' (Err fault.Memory) = held' ≡ held
IsLooped s t rules limit text held held' x = (is_bad_size (length text) ≡ false)
    × IsLinked s t (left_end rules limit text) (right_end rules limit (sha1 text)) held held' x

-- ---- a fetch

-- `Unfetched` isn't answered, and `Turns` only if both ends may send as many bytes as rounds may be made, since each moves a byte
abbrev pub IsFetching : List ℕ → Result LoopEnd ToolFault → Type 0
IsFetching text (Ok Unfetched) = ⊥
IsFetching text (Err fault.Turns) = 1048576 ≤ most_bytes (length text)
IsFetching text other = ⊤

-- ---- devices

-- All was read to the end, or it is too long by one byte at least: of metadata that is too long no more than one byte more is read.
abbrev pub IsInput : Option (List ℕ) → Option (List ℕ) → Type 0 → Type 0 → Result (Vec ℕ) ToolFault → Type 0
IsInput left left' AtEnd Failed (Ok text) =
    Consumes left left' text.items × (length text.items ≤ max_metadata + 1) × (length text.items ≤ max_metadata → AtEnd)
IsInput left left' AtEnd Failed (Err fault.Read) = (text : List ℕ) × Consumes left left' text × (length text ≤ max_metadata + 1) × Failed
IsInput left left' AtEnd Failed (Err fault.Memory) = (text : List ℕ) × Consumes left left' text × (length text ≤ max_metadata + 1)
IsInput left left' AtEnd Failed (Err other) = ⊥

-- the reader's end was read if the text was used: it was served, or it is refused though it isn't too long
abbrev pub IsTimely : Type 0 → ℕ → Result LoopEnd ToolFault → Type 0
IsTimely AtEnd size (Ok Fetched) = AtEnd
IsTimely AtEnd size (Ok Unfetched) = AtEnd
IsTimely AtEnd size (Ok BadSize) = size ≤ max_metadata → AtEnd
IsTimely AtEnd size (Err fault.Write) = AtEnd
IsTimely AtEnd size (Err fault.Turns) = AtEnd
IsTimely AtEnd size (Err fault.Net) = AtEnd
IsTimely AtEnd size other = ⊤

-- A call of the wire failed, or moved nothing, exactly if the answer says so. If it stopped for the rounds, each of them made two calls.
abbrev pub IsWireFault : WireSeen → WireSeen → Result LoopEnd ToolFault → Type 0
IsWireFault s t (Err fault.Net) = Grew s.failed t.failed
IsWireFault s t (Err fault.Turns) = (t.failed ≡ s.failed) × (capped (s.calls + 2 * 1048576) ≤ t.calls)
IsWireFault s t other = t.failed ≡ s.failed

-- What was read is the text, of at most one byte more than metadata may have, and this comes of it.
pub record IsLoop (left left' : Option (List ℕ)) (AtEnd : Type 0) (s t : WireSeen) (rules : Rules) (limit : ℕ) (held held' : Option (List ℕ))
    (result : Result LoopEnd ToolFault) : Type 0 where
  pub text : List ℕ
  pub reads : Consumes left left' text
  pub most : length text ≤ max_metadata + 1
  pub timely : IsTimely AtEnd (length text) result
  pub looped : IsLooped s t rules limit text held held' result
  pub fetches : IsClear s → IsFetching text result

-- ---- for private contracts

-- what comes of two ends that begin so, if one serves metadata and the other one fetches it
abbrev pub Fetches : HalfState → HalfState → Result LoopEnd ToolFault → Type 0
Fetches l r result = (metadata : List ℕ) (a b : EndState) → IsFetchPair metadata a b → l ≡ connected a → r ≡ connected b → IsFetching metadata result

-- what was written of these lines
abbrev pub IsWrite : List ℕ → LoopEnd → Option (List ℕ) → Option (List ℕ) → Result LoopEnd ToolFault → Type 0
IsWrite lines end held held' (Ok e) = Appends held held' lines × (e ≡ end)
IsWrite lines end held held' (Err e) = AppendsPrefix held held' lines × (e ≡ fault.Write)

-- what is written of ends that have nothing more to send
abbrev pub IsPrinted : Handled → HalfState → Option (List ℕ) → Option (List ℕ) → Result LoopEnd ToolFault → Type 0
IsPrinted h r held held' (Ok Fetched) = (metadata : List ℕ) × (metadata_of r.end.part ≡ Some metadata)
    × Appends held held' (fetched_lines metadata h.left h.right)
IsPrinted h r held held' (Ok Unfetched) = (metadata_of r.end.part ≡ None) × Appends held held' unfetched_line
IsPrinted h r held held' (Err fault.Write) = (lines : List ℕ) × AppendsPrefix held held' lines
    × (((metadata : List ℕ) × (metadata_of r.end.part ≡ Some metadata) × (lines ≡ fetched_lines metadata h.left h.right))
    ⊎ ((metadata_of r.end.part ≡ None) × (lines ≡ unfetched_line)))
IsPrinted h r held held' (Err fault.Memory) = held' ≡ held
IsPrinted h r held held' other = ⊥

-- ---- the exit status

-- 0 where it fetched, 1 where it didn't, 3 for a fault
abbrev pub status_of : Result LoopEnd ToolFault → ℕ
status_of (Ok Fetched) = 0
status_of (Ok other) = 1
status_of (Err e) = 3
