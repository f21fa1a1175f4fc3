-- Which bytes can't begin an item, whatever follows them.
use Rattle.std.specs.Prelude.{◌≡◌, ◌≢◌, ℕ, ◌+◌, ◌-◌, ◌^◌, ◌<◌, ◌≤◌, min, List, [], ◌++◌, length, drop}
use Rattle.bt_pcap.specs.declared.numbers.Order.{Order}
use Rattle.bt_pcap.specs.declared.numbers.Order.TheVariants.{Big}
use Rattle.bt_pcap.specs.declared.interfaces.Interface.{Interface}
use Rattle.bt_pcap.specs.declared.fault.FileFault.{FileFault}
use Rattle.bt_pcap.specs.declared.fault.FileFault.TheVariants.{NoCapture, ByteOrder, Length, TooShort, RecordLength, Undescribed, Unlike}
use Rattle.bt_pcap.specs.Sizes.{longest, need}
use Rattle.bt_pcap.specs.Numbers.{u16, u32, number32}
use Rattle.bt_pcap.specs.Formats.{Format, Unknown, Pcap, Pcapng}
use Rattle.bt_pcap.specs.Items.{section_type}
use Rattle.bt_pcap.specs.Reading.{least, most}

-- A section may begin here: at the file's first byte, or after a block.
abbrev pub MayBegin : Format → Type 0
MayBegin Unknown = Unit {0}
MayBegin (Pcap order scale link) = ⊥
MayBegin (Pcapng order known) = Unit {0}

-- The first four bytes are no magic number of pcap and not the type of a section header block.
pub record IsForeign (first : List ℕ) : Type 0 where
  pub four : length first ≡ 4
  pub section : first ≢ u32 Big section_type
  pub micro : (order : Order) → first ≢ u32 order 0xA1B2C3D4
  pub nano : (order : Order) → first ≢ u32 order 0xA1B23C4D

-- A section header block whose byte-order magic is that of no order.
pub record HasNoOrder (bytes : List ℕ) : Type 0 where
  pub total : List ℕ
  pub magic : List ℕ
  pub rest : List ℕ
  pub whole : bytes ≡ u32 Big section_type ++ (total ++ (magic ++ rest))
  pub total_four : length total ≡ 4
  pub magic_four : length magic ≡ 4
  pub unknown : (order : Order) → magic ≢ u32 order 0x1A2B3C4D

-- A section header block whose total length is below 16.
pub record IsShortSection (bytes : List ℕ) : Type 0 where
  pub order : Order
  pub total : ℕ
  pub rest : List ℕ
  pub whole : bytes ≡ u32 order section_type ++ (u32 order total ++ (u32 order 0x1A2B3C4D ++ rest))
  pub short : total < 16

-- A block of this total length has come, and its last four bytes are looked at and are another number.
pub record IsUnlike (order : Order) (total : ℕ) (bytes : List ℕ) : Type 0 where
  pub within : total ≤ need
  pub enough : total ≤ length bytes
  pub unlike : number32 order (drop (total - 4) bytes) ≢ total

-- The last four bytes are the total length again, if they are looked at.
abbrev pub IsAlike : Order → ℕ → List ℕ → Type 0
IsAlike order total bytes = total ≤ need → number32 order (drop (total - 4) bytes) ≡ total

-- A section header block like that.
pub record IsUnlikeSection (bytes : List ℕ) : Type 0 where
  pub order : Order
  pub total : ℕ
  pub rest : List ℕ
  pub whole : bytes ≡ u32 order section_type ++ (u32 order total ++ (u32 order 0x1A2B3C4D ++ rest))
  pub enough : 16 ≤ total
  pub other : IsUnlike order total bytes

-- A block of another type with this total length.
pub record BeginsBlock (order : Order) (kind total : ℕ) (bytes : List ℕ) : Type 0 where
  pub rest : List ℕ
  pub whole : bytes ≡ u32 order kind ++ (u32 order total ++ rest)
  pub kind_fits : kind < 2 ^ 32
  pub total_fits : total < 2 ^ 32
  pub other : kind ≢ section_type

-- A record of a pcap file with this captured length.
pub record BeginsRecord (order : Order) (captured : ℕ) (bytes : List ℕ) : Type 0 where
  pub seconds : ℕ
  pub fraction : ℕ
  pub original : ℕ
  pub rest : List ℕ
  pub whole : bytes ≡ u32 order seconds ++ (u32 order fraction ++ (u32 order captured ++ (u32 order original ++ rest)))
  pub seconds_fit : seconds < 2 ^ 32
  pub fraction_fits : fraction < 2 ^ 32
  pub captured_fits : captured < 2 ^ 32
  pub original_fits : original < 2 ^ 32

-- The body of a packet's block names an interface that the section doesn't have; a simple packet's is the first.
pub data NamesNone (order : Order) (known : List Interface) (kind : ℕ) (body : List ℕ) : Type 0 where
  enhanced : (number : ℕ) (rest : List ℕ) → kind ≡ 6 → body ≡ u32 order number ++ rest → number < 2 ^ 32 → length known ≤ number
      → NamesNone order known kind body
  obsolete : (number : ℕ) (rest : List ℕ) → kind ≡ 2 → body ≡ u16 order number ++ rest → number < 2 ^ 16 → length known ≤ number
      → NamesNone order known kind body
  simple : kind ≡ 3 → known ≡ [] → NamesNone order known kind body

pub data HasFault (s : Format) (bytes : List ℕ) (f : FileFault) : Type 0 where
  foreign : (first rest : List ℕ) → s ≡ Unknown → bytes ≡ first ++ rest → IsForeign first → f ≡ NoCapture → HasFault s bytes f
  unordered : MayBegin s → HasNoOrder bytes → f ≡ ByteOrder → HasFault s bytes f
  short_section : MayBegin s → IsShortSection bytes → f ≡ Length → HasFault s bytes f
  short_block : (order : Order) (known : List Interface) (kind total : ℕ) → s ≡ Pcapng order known → BeginsBlock order kind total bytes
      → total < 12 → f ≡ Length → HasFault s bytes f
  short_body : (order : Order) (known : List Interface) (kind total : ℕ) → s ≡ Pcapng order known → BeginsBlock order kind total bytes
      → 12 ≤ total → total < 12 + least kind → f ≡ TooShort → HasFault s bytes f
  long_body : (order : Order) (known : List Interface) (kind total : ℕ) → s ≡ Pcapng order known → BeginsBlock order kind total bytes
      → 12 + most kind < total → f ≡ Length → HasFault s bytes f
  unlike_section : MayBegin s → IsUnlikeSection bytes → f ≡ Unlike → HasFault s bytes f
  unlike_block : (order : Order) (known : List Interface) (kind total : ℕ) → s ≡ Pcapng order known → BeginsBlock order kind total bytes
      → 12 + least kind ≤ total → total ≤ 12 + most kind → IsUnlike order total bytes → f ≡ Unlike → HasFault s bytes f
  undescribed : (order : Order) (known : List Interface) (kind total : ℕ) → s ≡ Pcapng order known → BeginsBlock order kind total bytes
      → 12 + least kind ≤ total → total ≤ 12 + most kind → min total need ≤ length bytes → IsAlike order total bytes → NamesNone order known kind (drop 8 bytes) → f ≡ Undescribed
      → HasFault s bytes f
  long_record : (order : Order) (scale link captured : ℕ) → s ≡ Pcap order scale link → BeginsRecord order captured bytes
      → longest < captured → f ≡ RecordLength → HasFault s bytes f
