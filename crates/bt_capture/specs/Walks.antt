-- How a walk goes on, item by item.
use Rattle.std.specs.Prelude.{◌≡◌, ℕ, ◌+◌, ◌-◌, ◌^◌, ◌≤◌, min, Bool, if◌then◌else◌, ◌⊎◌, List, [], ◌∷◌, drop, Result, Ok, Err}
use Rattle.bt_pcap.specs.Files.{format_of}
use Rattle.bt_pcap.specs.Steps.{captured}
use Rattle.bt_pcap.specs.declared.fault.FileFault.{FileFault}
use Rattle.bt_capture.specs.declared.walk.Walk.{Walk}
use Rattle.bt_capture.specs.declared.walk.Found.{Found}
use Rattle.bt_capture.specs.declared.walk.Found.TheVariants as found
use Rattle.bt_capture.specs.Readings.{Reading, GoesOn, Waits, IsFaulty}

-- a walk over these bytes, which were read last of this many
abbrev pub walk_state : Walk → List ℕ → ℕ → Reading
walk_state w bytes total = record { format = format_of w.file; skip = w.skip; held = drop w.at bytes; bytes = total; packets = w.packets }

-- Bytes of the last item are passed over: all that is left of it, or all that came.
pub record IsPassed (len : ℕ) (old new : Walk) : Type 0 where
  pub n : ℕ
  pub over : new.at ≡ old.at + n
  pub left : old.skip ≡ n + new.skip
  pub within : new.at ≤ len
  pub all : (new.skip ≡ 0) ⊎ (new.at ≡ len)
  pub file : new.file ≡ old.file
  pub packets : new.packets ≡ old.packets

-- after an item of which these bytes were used
abbrev pub moved_on : Walk → ℕ → ℕ → Bool → Walk
moved_on w used skip is_packet =
    record w { at = w.at + used; skip = skip; packets = if is_packet then min (w.packets + 1) (2 ^ 64 - 1) else w.packets }

-- An item was taken, with its packet if it has one; or more bytes are needed; or there is a fault.
abbrev pub Steps : Reading → Result Found FileFault → Reading → Type 0
Steps old (Ok (found.Packet p)) new = GoesOn old [] (captured p ∷ []) new
Steps old (Ok found.Passed) new = GoesOn old [] [] new
Steps old (Ok found.More) new = GoesOn old [] [] new × Waits new
Steps old (Err f) new = GoesOn old [] [] new × IsFaulty new f

-- the fact for an item without a packet
abbrev pub IfPassed : Result Found FileFault → Type 0 → Type 0
IfPassed (Ok (found.Packet p)) P = Unit {0}
IfPassed (Ok found.Passed) P = P
IfPassed (Ok found.More) P = Unit {0}
IfPassed (Err f) P = Unit {0}
