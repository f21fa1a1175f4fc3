-- What `serve` does with its file, what it says, and its exit status.
use Rattle.std.specs.Prelude.{◌≡◌, ◌⊎◌, ◌<◌, ◌≤◌, ◌++◌, ⊤, ℕ, Bool, true, false, List, [], length, codes, decimal, Option, Some, None, Result, Ok, Err}
use Rattle.std.specs.Global.{Vec}
use Rattle.std.specs.declared.io.ErrorKind.{ErrorKind}
use Rattle.std.specs.declared.io.ErrorKind.TheVariants as kind
use Rattle.hex.specs.Hex.{encode_lower}
use Rattle.bt_io.specs.Seen.{TargetSeen}
use Rattle.bt_metadata.specs.Blocks.{max_metadata}
use Rattle.bt_text.specs.declared.ended.Ended.TheVariants as ends
use Rattle.bt_text.specs.declared.ended.ToolFault.{ToolFault}
use Rattle.bt_text.specs.declared.ended.ToolFault.TheVariants as fault
use Rattle.bt_text.specs.Lines.{fault_line, verdict_line}
use Rattle.bt_run.specs.Runs.{IsSaid}
use Rattle.bt_bencode.specs.Trees.{Pairs}
use Rattle.bt_torrent.specs.Files.{IsFileOf, IsInfoKept}
use Rattle.bt_serve.specs.declared.door.Parting.{Parting}
use Rattle.bt_serve.specs.declared.guest.Ending.{Ending}
use Rattle.bt_serve.specs.declared.guest.Ending.TheVariants as ending
use Rattle.bt_cli.specs.declared.serve.FileFault.{FileFault}
use Rattle.bt_cli.specs.declared.serve.FileFault.TheVariants.{NoDictionary, NoInfo, TooLong}
use Rattle.bt_cli.specs.declared.serve.Service.{Service}
use Rattle.bt_cli.specs.declared.serve.Service.TheVariants.{Done, RefusedFile, Fault, NoListener}

-- why a file isn't served: a .torrent has a dictionary under `info`, and an info dictionary a number under `piece length` (BEP 3)
abbrev pub refused_words : FileFault → List ℕ
refused_words NoDictionary = codes "refused file: not one bencoded dictionary that nests at most 32 deep\n"
refused_words NoInfo = codes "refused file: no dictionary under 'info' and no number under 'piece length'\n"
refused_words TooLong = codes "refused file: info dictionary of more than 67108864 bytes\n"

-- a fault has its line, and so has a file that isn't served; the line of a failed listener has come before
abbrev pub serve_words : Service → List ℕ
serve_words Done = []
serve_words NoListener = []
serve_words (RefusedFile f) = refused_words f
serve_words (Fault f) = fault_line f

abbrev pub serve_status : Service → ℕ
serve_status Done = 0
serve_status NoListener = 3
serve_status (RefusedFile f) = 1
serve_status (Fault f) = 3

-- ---- the file

-- the reason is right: of a file that spells no dictionary, of one without an info dictionary, or of one whose info dictionary is too long
abbrev pub IsRefusedFor : List ℕ → FileFault → Type 0
IsRefusedFor file NoDictionary = (ps : Pairs) → IsFileOf ps file → ⊥
IsRefusedFor file NoInfo = ((ps : Pairs) × IsFileOf ps file) × IsInfoKept file None
IsRefusedFor file TooLong = (info : Vec ℕ) × IsInfoKept file (Some info) × (max_metadata < length info.items)

-- the info dictionary of the file, if it isn't too long
abbrev pub IsMetadataOf : List ℕ → Result (Vec ℕ) Service → Type 0
IsMetadataOf file (Ok metadata) = IsInfoKept file (Some metadata) × (length metadata.items ≤ max_metadata)
IsMetadataOf file (Err (RefusedFile f)) = IsRefusedFor file f
IsMetadataOf file (Err (Fault f)) = f ≡ fault.Memory
IsMetadataOf file (Err Done) = ⊥
IsMetadataOf file (Err NoListener) = ⊥

-- the fault of a file that can't be read
abbrev pub read_fault : ErrorKind → ToolFault
read_fault kind.OutOfMemory = fault.Memory
read_fault _ = fault.Read

-- ---- the service

abbrev pub is_done : Service → Bool
is_done Done = true
is_done other = false

-- It is done, or out of memory.
abbrev pub IsServiceEnd : Service → Type 0
IsServiceEnd Done = ⊤
IsServiceEnd (Fault f) = f ≡ fault.Memory
IsServiceEnd (RefusedFile f) = ⊥
IsServiceEnd NoListener = ⊥

-- ---- its lines

-- the last word of a connection's line
abbrev pub ending_word : Ending → List ℕ
ending_word ending.Closed = codes "closed\n"
ending_word ending.Unserved = codes "closed\n"
ending_word ending.Silent = codes "silent\n"
ending_word ending.Unasked = codes "unasked\n"
ending_word (ending.Refused r) = verdict_line (ends.Refused r)

-- what stands after the peer in a connection's line
abbrev pub parting_words : Parting → List ℕ
parting_words p =
    codes " sent=" ++ (decimal p.sent ++ (codes " handled=" ++ (decimal p.handled ++ (codes " " ++ ending_word p.ending))))

-- A connection's line: its peer, the counts, and how it ended.
abbrev pub IsPartingLine : Parting → List ℕ → Type 0
IsPartingLine p line = (peer : List ℕ) × (line ≡ peer ++ parting_words p)

-- a connection's line is said, or nothing if there is no memory for it
abbrev pub IsPartingSaid : Parting → TargetSeen → TargetSeen → Type 0
IsPartingSaid p before after = (line : List ℕ) × ((line ≡ []) ⊎ IsPartingLine p line) × IsSaid line before after

-- the first line: the info hash, the size of the metadata, and where it is served
abbrev pub serving_line : List ℕ → ℕ → List ℕ → List ℕ
serving_line hash size address =
    codes "serving " ++ (encode_lower hash ++ (codes " size=" ++ (decimal size ++ (codes " on " ++ (address ++ codes "\n")))))

abbrev pub IsAnnounced : List ℕ → ℕ → TargetSeen → TargetSeen → Type 0
IsAnnounced hash size before after = (address : List ℕ) × IsSaid (serving_line hash size address) before after
