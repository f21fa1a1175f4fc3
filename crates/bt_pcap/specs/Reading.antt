-- The item at the front of bytes as a value.
use Rattle.std.specs.Prelude.{ℕ, zero, suc, ◌+◌, ◌-◌, ◌*◌, ◌%◌, ◌^◌, ◌==◌, min, List, [], length, take, drop, slice_get, Option, Some, None, if◌then◌else◌}
use Rattle.std.specs.Prelude.{nat_le, nat_lt, not, Bool, false, ◌&&◌, ◌||◌}
use Rattle.bt_pcap.specs.Sizes.{keep, need, longest}
use Rattle.bt_pcap.specs.declared.numbers.Order.{Order}
use Rattle.bt_pcap.specs.declared.numbers.Order.TheVariants.{Little, Big}
use Rattle.bt_pcap.specs.declared.interfaces.Interface.{Interface}
use Rattle.bt_pcap.specs.declared.fault.FileFault.{FileFault}
use Rattle.bt_pcap.specs.declared.fault.FileFault.TheVariants.{NoCapture, ByteOrder, Length, TooShort, RecordLength, Undescribed, Unlike}
use Rattle.bt_pcap.specs.Numbers.{number16, number32}
use Rattle.bt_pcap.specs.Interfaces.{noted}
use Rattle.bt_pcap.specs.Packets.{recorded, packet_on, simple_on}
use Rattle.bt_pcap.specs.Options.{resolution_of, offset_of}
use Rattle.bt_pcap.specs.Formats.{Format, Unknown, Pcap, Pcapng, Captured}

-- An item with its packet, its size and what is known after it; or too few bytes; or a fault.
pub data Answer : Type 0 where
  Item : Option Captured → ℕ → Format → Answer
  Undecided : Answer
  Faulty : FileFault → Answer

-- the number after k others, four bytes each
abbrev pub word : Order → ℕ → List ℕ → ℕ
word order zero bytes = number32 order bytes
word order (suc k) bytes = word order k (drop 4 bytes)

-- as much of an item as is looked at
abbrev pub front : ℕ → List ℕ → List ℕ
front size bytes = take (min size need) bytes

-- an item of that size, if its front has come
abbrev pub whole : ℕ → List ℕ → Option Captured → Format → Answer
whole size bytes packet next = if nat_lt (length bytes) (min size need) then Undecided else Item packet size next

-- ---- pcap

unfoldable pub read_header : Order → ℕ → List ℕ → Answer
read_header order scale bytes =
    if nat_lt (length bytes) 24 then Undecided else Item None 24 (Pcap order scale (word order 5 bytes % 65536))

-- the size of the record at the front
abbrev pub record_size : Order → List ℕ → ℕ
record_size order bytes = 16 + word order 2 bytes

abbrev pub record_packet : Order → ℕ → ℕ → List ℕ → Captured
record_packet order scale link bytes =
    recorded scale link (word order 0 bytes) (word order 1 bytes) (drop 16 (front (record_size order bytes) bytes)) (word order 3 bytes)

unfoldable pub read_record : Order → ℕ → ℕ → List ℕ → Answer
read_record order scale link bytes =
    if nat_lt (length bytes) 16 then Undecided
    else if nat_lt longest (word order 2 bytes) then Faulty RecordLength
    else whole (record_size order bytes) bytes (Some (record_packet order scale link bytes)) (Pcap order scale link)

-- ---- pcapng

-- a packet with its time stamp, from its time on
unfoldable pub read_stamped : Order → List Interface → ℕ → List ℕ → Option Captured
read_stamped order known interface bytes =
    packet_on (slice_get known interface) (word order 0 bytes * 2 ^ 32 + word order 1 bytes)
    (take (word order 2 bytes) (drop 4 (drop 4 (drop 4 (drop 4 bytes))))) (word order 3 bytes)

unfoldable pub read_packet : Order → List Interface → ℕ → List ℕ → Option Captured
read_packet order known kind body =
    if kind == 6 then read_stamped order known (number32 order body) (drop 4 body)
    else if kind == 2 then read_stamped order known (number16 order body) (drop 2 (drop 2 body))
    else if kind == 3 then simple_on (slice_get known 0) (drop 4 body) (number32 order body)
    else None

abbrev pub read_interface : Order → List ℕ → Interface
read_interface order body = record {
  link = number16 order body;
  snap = number32 order (drop 2 (drop 2 body));
  resolution = resolution_of order (take keep (drop 4 (drop 2 (drop 2 body))));
  offset = offset_of order (take keep (drop 4 (drop 2 (drop 2 body))));
}

unfoldable pub read_interfaces : Order → List Interface → ℕ → List ℕ → List Interface
read_interfaces order known kind body = if kind == 1 then noted known (read_interface order body) else known

-- the least body of a block of that type
unfoldable pub least : ℕ → ℕ
least kind = if kind == 1 then 8 else if kind == 2 then 20 else if kind == 3 then 4 else if kind == 6 then 20 else 0

-- the longest body of a block of that type: a packet's fields and 2 ^ 24 bytes; of the others, more than a total length can say
unfoldable pub most : ℕ → ℕ
most kind = if kind == 2 then 20 + longest else if kind == 3 then 4 + longest else if kind == 6 then 20 + longest else 2 ^ 32 - 1

-- whether a block of that type has a packet
abbrev pub has_packet : ℕ → Bool
has_packet kind = (kind == 6 || kind == 2) || kind == 3

-- whether a block of that type has no packet though it should: its interface isn't described
abbrev pub lacks : ℕ → Option Captured → Bool
lacks kind None = has_packet kind
lacks kind (Some packet) = false

-- whether a block's length after its body is another one, if it is looked at
abbrev pub differs : Order → ℕ → List ℕ → Bool
differs order size bytes = nat_le size need && not (number32 order (drop (size - 4) bytes) == size)

-- a block of that type and size, if its front has come
abbrev pub whole_block : Order → ℕ → ℕ → List ℕ → Option Captured → Format → Answer
whole_block order kind size bytes packet next =
    if nat_lt (length bytes) (min size need) then Undecided
    else if differs order size bytes then Faulty Unlike
    else if lacks kind packet then Faulty Undescribed
    else Item packet size next

-- the body of a block, as far as it is looked at
abbrev pub body_of : ℕ → List ℕ → List ℕ
body_of total bytes = take (total - 12) (drop 8 (front total bytes))

-- a block that isn't a section header
unfoldable pub read_other : Order → List Interface → ℕ → ℕ → List ℕ → Answer
read_other order known kind total bytes =
    if nat_lt total 12 then Faulty Length
    else if nat_lt (total - 12) (least kind) then Faulty TooShort
    else if nat_lt (most kind) (total - 12) then Faulty Length
    else whole_block order kind total bytes (read_packet order known kind (body_of total bytes)) (Pcapng order (read_interfaces order known kind (body_of total bytes)))

abbrev pub read_section_in : Order → ℕ → List ℕ → Answer
read_section_in order total bytes =
    if nat_lt total 16 then Faulty Length else whole_block order 0x0A0D0D0A total bytes None (Pcapng order [])

unfoldable pub read_section : List ℕ → Answer
read_section bytes =
    if nat_lt (length bytes) 12 then Undecided
    else if word Big 2 bytes == 0x1A2B3C4D then read_section_in Big (word Big 1 bytes) bytes
    else if word Big 2 bytes == 0x4D3C2B1A then read_section_in Little (word Little 1 bytes) bytes
    else Faulty ByteOrder

unfoldable pub read_block : Order → List Interface → List ℕ → Answer
read_block order known bytes =
    if nat_lt (length bytes) 8 then Undecided
    else if number32 order bytes == 0x0A0D0D0A then read_section bytes
    else read_other order known (number32 order bytes) (word order 1 bytes) bytes

-- ---- any

unfoldable pub read_first : List ℕ → Answer
read_first bytes =
    if nat_lt (length bytes) 4 then Undecided
    else if number32 Big bytes == 0x0A0D0D0A then read_section bytes
    else if number32 Big bytes == 0xD4C3B2A1 then read_header Little 1000 bytes
    else if number32 Big bytes == 0xA1B2C3D4 then read_header Big 1000 bytes
    else if number32 Big bytes == 0x4D3CB2A1 then read_header Little 1 bytes
    else if number32 Big bytes == 0xA1B23C4D then read_header Big 1 bytes
    else Faulty NoCapture

-- the item at the front
abbrev pub next_item : Format → List ℕ → Answer
next_item Unknown bytes = read_first bytes
next_item (Pcap order scale link) bytes = read_record order scale link bytes
next_item (Pcapng order known) bytes = read_block order known bytes
