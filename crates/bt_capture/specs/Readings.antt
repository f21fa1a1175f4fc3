-- What was read of a capture file, and the packets that were handed out.
use Rattle.std.specs.Prelude.{◌≡◌, ℕ, ◌+◌, ◌-◌, ◌^◌, ◌<◌, ◌≤◌, ◌⊎◌, min, List, [], ◌∷◌, ◌++◌, length, Option, Some, None, Result, Ok, Err}
use Rattle.bt_pcap.specs.Sizes.{need}
use Rattle.bt_pcap.specs.Numbers.{AreBytes}
use Rattle.bt_pcap.specs.Formats.{Format, Unknown, Captured}
use Rattle.bt_pcap.specs.Faults.{HasFault}
use Rattle.bt_pcap.specs.Steps.{captured}
use Rattle.bt_pcap.specs.Reading.{Faulty, next_item}
use Rattle.bt_pcap.specs.Captures.{IsCapture, IsInside}
use Rattle.bt_pcap.specs.Laws.{joined}
use Rattle.bt_pcap.specs.declared.fault.FileFault.{FileFault}
use Rattle.bt_pcap.specs.declared.fronts.Packet.{Packet}

-- What is known of the file after the last item that was begun, how many bytes of that item are still to come, which aren't kept, and
-- the bytes that were read and not yet looked at. And how many bytes were read and packets handed out, at most 2 ^ 64 - 1 of each.
pub record Reading : Type 0 where
  pub format : Format
  pub skip : ℕ
  pub held : List ℕ
  pub bytes : ℕ
  pub packets : ℕ

abbrev pub most : ℕ
most = 2 ^ 64 - 1

-- before a file's first byte
abbrev pub nothing_read : Reading
nothing_read = record { format = Unknown; skip = 0; held = []; bytes = 0; packets = 0 }

-- With the next `skip` bytes, whatever these are, the bytes are items from the file's start on, with these packets.
abbrev pub AreItems : List ℕ → ℕ → List Captured → Format → Type 0
AreItems passed skip packets format =
    (tail : List ℕ) → AreBytes tail → length tail ≡ skip → (items : List (List ℕ)) × (joined items ≡ passed ++ tail) × IsCapture Unknown items packets format

-- These bytes were read from the file's start on, and these packets handed out: those of all items that have begun before what is held.
pub record IsReading (all : List ℕ) (packets : List Captured) (r : Reading) : Type 0 where
  pub passed : List ℕ
  pub whole : all ≡ passed ++ r.held
  pub are_items : AreItems passed r.skip packets r.format
  pub bytes : r.bytes ≡ min (length all) most
  pub count : r.packets ≡ min (length packets) most

-- Whatever was read and handed out before: now these bytes were read too, and these packets handed out.
pub record GoesOn (old : Reading) (more : List ℕ) (given : List Captured) (new : Reading) : Type 0 where
  pub reads : (all : List ℕ) (packets : List Captured) → IsReading all packets old → IsReading (all ++ more) (packets ++ given) new

-- Bytes were read, or packets handed out: at least one.
pub record Advances (old new : Reading) : Type 0 where
  pub more : List ℕ
  pub given : List Captured
  pub goes_on : GoesOn old more given new
  pub some : 1 ≤ length more + length given

-- More bytes are needed: none is held, or they end inside an item.
pub record Waits (r : Reading) : Type 0 where
  pub few : length r.held < need
  pub inside : (0 < r.skip × (r.held ≡ [])) ⊎ ((r.skip ≡ 0) × IsInside r.format r.held)

-- The bytes that are held can't begin an item, whatever follows them.
pub record IsFaulty (r : Reading) (f : FileFault) : Type 0 where
  pub at_item : r.skip ≡ 0
  pub answer : next_item r.format r.held ≡ Faulty f
  pub fault : HasFault r.format r.held f

-- what is handed out, without where it lies in memory
abbrev pub shown : Result (Option Packet) FileFault → Result (Option Captured) FileFault
shown (Ok None) = Ok None
shown (Ok (Some p)) = Ok (Some (captured p))
shown (Err f) = Err f

-- A packet is handed out: the next one. Or there is none, or a fault.
abbrev pub Hands : Reading → Result (Option Captured) FileFault → Reading → Type 0
Hands old (Ok (Some p)) new = GoesOn old [] (p ∷ []) new
Hands old (Ok None) new = GoesOn old [] [] new × Waits new
Hands old (Err f) new = GoesOn old [] [] new × IsFaulty new f

-- A fault is told again, and nothing changes.
abbrev pub Repeats : {A : Type 0} → Reading → Result A FileFault → Reading → Type 0
Repeats old r new = (f : FileFault) → IsFaulty old f → (r ≡ Err f) × (new ≡ old)

-- with these bytes, which were read
abbrev pub with_bytes : Reading → List ℕ → Reading
with_bytes r bytes = record { format = r.format; skip = r.skip; held = r.held ++ bytes; bytes = min (r.bytes + length bytes) most; packets = r.packets }
