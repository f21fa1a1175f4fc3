-- Laws of capture files.
use Rattle.std.specs.Prelude.{◌≡◌, ℕ, List, [], ◌∷◌, ◌++◌, length, Option}
use Rattle.bt_pcap.specs.declared.fault.FileFault.{FileFault}
use Rattle.bt_pcap.specs.Numbers.{AreBytes}
use Rattle.bt_pcap.specs.Formats.{Format, Captured}
use Rattle.bt_pcap.specs.Items.{IsItem}
use Rattle.bt_pcap.specs.Faults.{HasFault}
use Rattle.bt_pcap.specs.Captures.{IsCapture}
use Rattle.bt_pcap.specs.Reading.{Item, next_item}

-- Once the bytes are read as an item, further bytes change nothing.
abbrev pub CutsDontMatter : Type 0
CutsDontMatter =
    (s : Format) (bytes more : List ℕ) (packet : Option Captured) (size : ℕ) (next : Format) → next_item s bytes ≡ Item packet size next
    → next_item s (bytes ++ more) ≡ Item packet size next

-- A fault stays, whatever follows.
abbrev pub FaultsStay : Type 0
FaultsStay = (s : Format) (bytes more : List ℕ) (f : FileFault) → HasFault s bytes f → HasFault s (bytes ++ more) f

-- An item is read as itself, whatever follows.
abbrev pub ItemsAreRead : Type 0
ItemsAreRead =
    (s : Format) (item more : List ℕ) (packet : Option Captured) (next : Format) → IsItem s item packet next
    → next_item s (item ++ more) ≡ Item packet (length item) next

-- At most one item begins the bytes, with one packet.
abbrev pub ItemsAreUnique : Type 0
ItemsAreUnique =
    (s : Format) (a b x y : List ℕ) (p q : Option Captured) (t u : Format) → IsItem s a p t → IsItem s b q u → a ++ x ≡ b ++ y → (a ≡ b) × (p ≡ q) × (t ≡ u)

-- Bytes that begin with an item have no fault.
abbrev pub ItemsHaveNoFault : Type 0
ItemsHaveNoFault =
    (s : Format) (item more : List ℕ) (packet : Option Captured) (next : Format) (f : FileFault) → AreBytes (item ++ more)
    → IsItem s item packet next → HasFault s (item ++ more) f → ⊥

-- the bytes of items one after another
abbrev pub joined : List (List ℕ) → List ℕ
joined [] = []
joined (item ∷ items) = item ++ joined items

-- A file has one list of packets.
abbrev pub PacketsAreUnique : Type 0
PacketsAreUnique =
    (s : Format) (a b : List (List ℕ)) (p q : List Captured) (t u : Format) → IsCapture s a p t → IsCapture s b q u → joined a ≡ joined b
    → (a ≡ b) × (p ≡ q) × (t ≡ u)
