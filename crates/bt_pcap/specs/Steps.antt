-- What a step of a reader answers.
use Rattle.std.specs.Prelude.{◌≡◌, ℕ, ◌+◌, min, Option, Some, None, Result, Ok, Err}
use Rattle.bt_pcap.specs.Sizes.{need}
use Rattle.bt_pcap.specs.declared.fault.FileFault.{FileFault}
use Rattle.bt_pcap.specs.declared.fronts.Packet.{Packet}
use Rattle.bt_pcap.specs.declared.fronts.Step.{Step}
use Rattle.bt_pcap.specs.declared.fronts.Step.TheVariants as step
use Rattle.bt_pcap.specs.Formats.{Format, Pcap, Captured}
use Rattle.bt_pcap.specs.declared.numbers.Order.{Order}
use Rattle.bt_pcap.specs.Reading.{Answer, Item, Undecided, Faulty}

-- a packet without where it lies in memory
abbrev pub captured : Packet → Captured
captured p = record { link = p.link; nanos = p.nanos; bytes = p.bytes.now; original = p.length }

abbrev pub IsPart : ℕ → ℕ → ℕ → Type 0
IsPart size used skip = (used ≡ min size need) × (used + skip ≡ size)

abbrev pub IsOf : Option Packet → ℕ → Step → Type 0
IsOf (Some p) size s = (used skip : ℕ) × (s ≡ step.Packet p used skip) × IsPart size used skip
IsOf None size s = (used skip : ℕ) × (s ≡ step.Passed used skip) × IsPart size used skip

-- The reader said what the answer is.
abbrev pub Gives : Format → Result Step FileFault → Format → Answer → Type 0
Gives old (Ok (step.Packet p used skip)) new answer = (answer ≡ Item (Some (captured p)) (used + skip) new) × (used ≡ min (used + skip) need)
Gives old (Ok (step.Passed used skip)) new answer = (answer ≡ Item None (used + skip) new) × (used ≡ min (used + skip) need)
Gives old (Ok step.More) new answer = (answer ≡ Undecided) × (new ≡ old)
Gives old (Err f) new answer = (answer ≡ Faulty f) × (new ≡ old)

-- the header was read: what is known after it
abbrev pub GivesHeader : Order → ℕ → Option ℕ → Answer → Type 0
GivesHeader order scale None answer = answer ≡ Undecided
GivesHeader order scale (Some link) answer = answer ≡ Item None 24 (Pcap order scale link)
