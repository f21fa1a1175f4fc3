-- What `capture` says at its end, and its exit status.
use Rattle.std.specs.Prelude.{◌<◌, ◌+◌, ◌-◌, ◌≡◌, ◌==◌, ◌⊎◌, ◌++◌, ◌&&◌, ℕ, Bool, true, false, List, [], codes, decimal, nat_lt, is_some, Option, Some, None, Result, Ok, Err, String, string_bytes, if◌then◌else◌}
use Rattle.std.specs.declared.alloc.AllocError.{AllocError}
use Rattle.bt_io.specs.Seen.{TargetSeen}
use Rattle.bt_text.specs.declared.ended.ToolFault.{ToolFault}
use Rattle.bt_text.specs.declared.ended.ToolFault.TheVariants as fault
use Rattle.bt_text.specs.Lines.{fault_line}
use Rattle.bt_run.specs.Endings.{fault_status, fault_words}
use Rattle.bt_run.specs.Runs.{IsSaid}
use Rattle.bt_pcap.specs.declared.fault.FileFault.{FileFault}
use Rattle.bt_pcap.specs.declared.fault.FileFault.TheVariants.{NoCapture, ByteOrder, Length, TooShort, RecordLength, Unlike, Undescribed}
use Rattle.bt_capture.specs.declared.ending.CaptureEnd.{CaptureEnd}
use Rattle.bt_capture.specs.declared.ending.Ending.{Ending}
use Rattle.bt_capture.specs.declared.ending.Ending.TheVariants.{Whole, Cut, Broken, Failed}
use Rattle.bt_capture.specs.declared.unread.UnreadPackets.{UnreadPackets}
use Rattle.bt_cli.specs.Unread.{unread_sum, unread_words}
use Rattle.bt_cli.specs.declared.capture.Outcome.{Outcome}
use Rattle.bt_cli.specs.declared.capture.Outcome.TheVariants.{Lost, Absent, Stopped, Nothing, Refused, Accepted}

-- ---- what was found

-- The file can't be read to its end.
abbrev pub is_stopped : Ending → Bool
is_stopped Whole = false
is_stopped Cut = false
is_stopped (Broken f) = true
is_stopped Failed = true

abbrev pub outcome_in : CaptureEnd → Outcome
outcome_in e =
    if nat_lt 0 e.lost then Lost else if is_stopped e.ending then Stopped else if is_some e.absent then Absent
    else if e.torrents == 0 then Nothing else if e.is_refused then Refused else Accepted

-- It isn't 0 if it counts that only a part was read.
abbrev pub outcome_status : Bool → Outcome → ℕ
outcome_status partial Lost = 3
outcome_status partial Absent = 3
outcome_status partial Stopped = 3
outcome_status partial Nothing = 3
outcome_status partial Refused = 1
outcome_status partial Accepted = if partial then 4 else 0

-- ---- the lines on an end

abbrev pub file_words : FileFault → List ℕ
file_words NoCapture = codes "fault: capture: neither a pcap nor a pcapng file\n"
file_words ByteOrder = codes "fault: capture: a section of a pcapng file has an unknown byte order\n"
file_words Length = codes "fault: capture: a block of a pcapng file has an impossible length\n"
file_words TooShort = codes "fault: capture: a block of a pcapng file is too short\n"
file_words RecordLength = codes "fault: capture: a record of a pcap file has an impossible length\n"
file_words Unlike = codes "fault: capture: the two lengths of a block of a pcapng file differ\n"
file_words Undescribed = codes "fault: capture: a packet of a pcapng file names an interface that isn't described, or is beyond the first 1,024\n"

-- how reading ended, if that isn't after a whole item
abbrev pub ending_line_words : Ending → List ℕ
ending_line_words Whole = []
ending_line_words Cut = codes "capture: ends inside a packet, which is left out\n"
ending_line_words (Broken f) = file_words f
ending_line_words Failed = fault_line fault.Read

-- The input's name comes before what is wrong with it.
abbrev pub ending_words : List ℕ → Ending → List ℕ
ending_words prefix ending = (if is_stopped ending then prefix else []) ++ ending_line_words ending

-- the line on so many connections, if there are some
abbrev pub so_many_words : ℕ → (one more : List ℕ) → List ℕ
so_many_words n one more = if n == 0 then [] else codes "capture: " ++ (decimal n ++ (if n == 1 then one else more))

-- connections of which there were too many at once: those that hadn't ended, and those that had, but not four seconds before
abbrev pub crowd_words : (unread early : ℕ) → List ℕ
crowd_words unread early =
    so_many_words unread (codes " connection was not read further: too many at once\n") (codes " connections were not read further: too many at once\n")
    ++ so_many_words early (codes " connection that had ended was given up early: too many at once\n")
    (codes " connections that had ended were given up early: too many at once\n")

-- Packets that aren't read have lines of their own.
abbrev pub nothing_words : (packets skipped : ℕ) → UnreadPackets → List ℕ
nothing_words packets skipped unread =
    codes "no BitTorrent connection in " ++ (decimal packets ++ (codes " packets; " ++ (decimal (skipped - unread_sum unread)
    ++ (codes " of them aren't TCP\n" ++ unread_words unread))))

-- no connection has the number of the stream
abbrev pub absent_words : Option ℕ → List ℕ
absent_words None = []
absent_words (Some n) = (codes "no connection " ++ decimal n) ++ codes "\n"

-- a text, or the fault's line if there is no memory for it
abbrev pub words_or_fault : {A : Type 0} → Result (String A) AllocError → List ℕ
words_or_fault (Ok text) = string_bytes text
words_or_fault (Err error) = fault_line fault.Memory

-- Connections that memory didn't last for are a fault. A capture without the connection of a stream or without a BitTorrent connection has
-- its line, if there is memory for that; one that can't be read to its end has none.
abbrev pub IsLastLine : Outcome → CaptureEnd → List ℕ → Type 0
IsLastLine Lost e line = line ≡ fault_line fault.Memory
IsLastLine Absent e line = (line ≡ absent_words e.absent) ⊎ (line ≡ fault_line fault.Memory)
IsLastLine Nothing e line = (line ≡ nothing_words e.packets e.skipped e.unread_packets) ⊎ (line ≡ fault_line fault.Memory)
IsLastLine Stopped e line = line ≡ []
IsLastLine Refused e line = line ≡ []
IsLastLine Accepted e line = line ≡ []

-- The lines on connections of which there were too many, if there are some; a fault if there is no memory for them.
abbrev pub AreCrowdLines : CaptureEnd → List ℕ → Type 0
AreCrowdLines e lines = (lines ≡ crowd_words e.unread e.early) ⊎ ((0 < e.unread + e.early) × (lines ≡ fault_line fault.Memory))

-- These words, and the lines after them.
abbrev pub IsEndSaidAfter : List ℕ → CaptureEnd → TargetSeen → TargetSeen → Type 0
IsEndSaidAfter words e before after = (crowd : List ℕ) × (line : List ℕ) × AreCrowdLines e crowd × IsLastLine (outcome_in e) e line
    × IsSaid (words ++ (crowd ++ line)) before after

abbrev pub IsEndSaid : List ℕ → CaptureEnd → TargetSeen → TargetSeen → Type 0
IsEndSaid prefix e before after = IsEndSaidAfter (ending_words prefix e.ending) e before after

-- ---- the end

abbrev pub IsCaptureSaid : Bool → List ℕ → Result CaptureEnd ToolFault → TargetSeen → TargetSeen → Type 0
IsCaptureSaid gone prefix (Ok e) before after = IsEndSaid prefix e before after
IsCaptureSaid gone prefix (Err f) before after = IsSaid (fault_words gone prefix f) before after

abbrev pub capture_status : (strict gone : Bool) → Result CaptureEnd ToolFault → ℕ
capture_status strict gone (Ok e) = outcome_status (strict && e.is_partial) (outcome_in e)
capture_status strict gone (Err f) = fault_status gone f
