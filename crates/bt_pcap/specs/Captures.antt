-- A whole capture file, and what a step adds to what was read.
use Rattle.std.specs.Prelude.{◌≡◌, ℕ, ◌+◌, ◌<◌, ◌≤◌, min, List, [], ◌∷◌, ◌++◌, length, take, Option, Some, None, Result, Ok, Err}
use Rattle.std.specs.Option.{option_to_list}
use Rattle.bt_pcap.specs.Sizes.{need}
use Rattle.bt_pcap.specs.declared.fault.FileFault.{FileFault}
use Rattle.bt_pcap.specs.declared.fronts.Step.{Step}
use Rattle.bt_pcap.specs.declared.fronts.Step.TheVariants as step
use Rattle.bt_pcap.specs.Numbers.{AreBytes}
use Rattle.bt_pcap.specs.Formats.{Format, Captured}
use Rattle.bt_pcap.specs.Items.{IsItem}
use Rattle.bt_pcap.specs.Faults.{HasFault}
use Rattle.bt_pcap.specs.Steps.{captured}

-- Items one after another, each from what is known after the one before, and their packets in order.
abbrev pub IsCapture : Format → List (List ℕ) → List Captured → Format → Type 0
IsCapture s [] packets next = (packets ≡ []) × (next ≡ s)
IsCapture s (item ∷ items) packets next =
    (packet : Option Captured) × (mid : Format) × (rest : List Captured) × IsItem s item packet mid × IsCapture mid items rest next ×
    (packets ≡ option_to_list packet ++ rest)

-- The first `used` bytes are the next item, together with the `skip` bytes of the file after them, whatever these are.
-- Of an item at most 1,048,604 bytes are used.
pub record TakesItem (s : Format) (bytes : List ℕ) (packet : Option Captured) (used skip : ℕ) (next : Format) : Type 0 where
  pub within : used ≤ length bytes
  pub kept : used ≡ min (used + skip) need
  pub item : (tail : List ℕ) → AreBytes tail → length tail ≡ skip → IsItem s (take used bytes ++ tail) packet next

-- The bytes end inside an item: they don't begin with what is used of an item, and have no fault.
pub record IsInside (s : Format) (bytes : List ℕ) : Type 0 where
  pub few : length bytes < need
  pub no_item : (item rest : List ℕ) (packet : Option Captured) (next : Format) → IsItem s item packet next → bytes ≡ take need item ++ rest → ⊥
  pub no_fault : (f : FileFault) → HasFault s bytes f → ⊥

-- What a step answers. Without an item nothing has changed.
abbrev pub Answers : Format → List ℕ → Result Step FileFault → Format → Type 0
Answers s bytes (Ok (step.Packet p used skip)) next = TakesItem s bytes (Some (captured p)) used skip next
Answers s bytes (Ok (step.Passed used skip)) next = TakesItem s bytes None used skip next
Answers s bytes (Ok step.More) next = (next ≡ s) × IsInside s bytes
Answers s bytes (Err f) next = (next ≡ s) × HasFault s bytes f

-- Whatever was read from the file's start on: now this item was read too, and its packet comes after those before.
abbrev pub Adds : Format → List ℕ → Option Captured → ℕ → ℕ → Format → Type 0
Adds s bytes packet used skip next =
    (first : Format) (items : List (List ℕ)) (packets : List Captured) (tail : List ℕ) → AreBytes tail → length tail ≡ skip → IsCapture first items packets s
    → IsCapture first (items ++ (take used bytes ++ tail) ∷ []) (packets ++ option_to_list packet) next

abbrev pub GoesOn : Format → List ℕ → Result Step FileFault → Format → Type 0
GoesOn s bytes (Ok (step.Packet p used skip)) next = Adds s bytes (Some (captured p)) used skip next
GoesOn s bytes (Ok (step.Passed used skip)) next = Adds s bytes None used skip next
GoesOn s bytes (Ok step.More) next = Unit {0}
GoesOn s bytes (Err f) next = Unit {0}
