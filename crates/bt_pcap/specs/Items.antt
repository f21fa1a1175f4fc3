-- The items of a capture file as they are written, field after field.
use Rattle.std.specs.Prelude.{◌≡◌, ◌≢◌, ℕ, ◌+◌, ◌*◌, ◌%◌, ◌^◌, ◌<◌, ◌≤◌, ◌⊎◌, List, [], ◌++◌, length, take, slice_get, Option, Some, None}
use Rattle.bt_pcap.specs.Sizes.{keep, need, longest}
use Rattle.bt_pcap.specs.declared.numbers.Order.{Order}
use Rattle.bt_pcap.specs.declared.interfaces.Interface.{Interface}
use Rattle.bt_pcap.specs.Numbers.{u16, u32}
use Rattle.bt_pcap.specs.Interfaces.{noted}
use Rattle.bt_pcap.specs.Options.{HasResolution, HasOffset}
use Rattle.bt_pcap.specs.Formats.{Format, Unknown, Pcap, Pcapng, Captured}
use Rattle.bt_pcap.specs.Packets.{recorded, packet_on, simple_on}

-- ---- pcap

-- The magic number says what a fraction counts: micro- or nanoseconds (draft-ietf-opsawg-pcap 4).
abbrev pub HasMagic : ℕ → ℕ → Type 0
HasMagic scale magic = ((scale ≡ 1000) × (magic ≡ 0xA1B2C3D4)) ⊎ ((scale ≡ 1) × (magic ≡ 0xA1B23C4D))

-- The file header: magic number; versions, reserved fields and snap length; the link type in the lower half of the last number (draft-ietf-opsawg-pcap 4).
pub record IsHeader (order : Order) (scale link : ℕ) (bytes : List ℕ) : Type 0 where
  pub magic : ℕ
  pub middle : List ℕ
  pub network : ℕ
  pub known : HasMagic scale magic
  pub whole : bytes ≡ u32 order magic ++ (middle ++ u32 order network)
  pub between : length middle ≡ 16
  pub fits : network < 2 ^ 32
  pub low : link ≡ network % 65536

-- A record: seconds, fraction, captured length, length on the wire, and as many bytes as were captured (draft-ietf-opsawg-pcap 5).
-- No link has packets of more than 2 ^ 24 bytes.
pub record IsRecord (order : Order) (seconds fraction original : ℕ) (octets bytes : List ℕ) : Type 0 where
  pub whole : bytes ≡ u32 order seconds ++ (u32 order fraction ++ (u32 order (length octets) ++ (u32 order original ++ octets)))
  pub seconds_fit : seconds < 2 ^ 32
  pub fraction_fits : fraction < 2 ^ 32
  pub captured_fits : length octets ≤ longest
  pub original_fits : original < 2 ^ 32

-- ---- pcapng

-- the type of a section header block, the same in both byte orders
abbrev pub section_type : ℕ
section_type = 0x0A0D0D0A

-- A block: type, total length, body, and four bytes with the total length again (draft-ietf-opsawg-pcapng 3.1). Those of a block of over 1,048,604
-- bytes aren't looked at.
pub record IsBlock (order : Order) (kind : ℕ) (body bytes : List ℕ) : Type 0 where
  pub trailer : List ℕ
  pub whole : bytes ≡ u32 order kind ++ (u32 order (12 + length body) ++ (body ++ trailer))
  pub four : length trailer ≡ 4
  pub same : 12 + length body ≤ need → trailer ≡ u32 order (12 + length body)
  pub kind_fits : kind < 2 ^ 32
  pub total_fits : 12 + length body < 2 ^ 32

-- A section header: its body begins with the byte-order magic in the section's order (draft-ietf-opsawg-pcapng 4.1).
pub record IsSection (order : Order) (bytes : List ℕ) : Type 0 where
  pub rest : List ℕ
  pub block : IsBlock order section_type (u32 order 0x1A2B3C4D ++ rest) bytes

-- An interface description: link type, reserved, snap length, options (draft-ietf-opsawg-pcapng 4.2).
-- The first 2 ^ 20 bytes of the options are looked at.
pub record IsInterface (order : Order) (i : Interface) (body : List ℕ) : Type 0 where
  pub reserved : ℕ
  pub options : List ℕ
  pub whole : body ≡ u16 order i.link ++ (u16 order reserved ++ (u32 order i.snap ++ options))
  pub link_fits : i.link < 2 ^ 16
  pub snap_fits : i.snap < 2 ^ 32
  pub resolution : HasResolution order (take keep options) i.resolution
  pub offset : HasOffset order (take keep options) i.offset

-- The rest of a packet block: upper and lower half of the time stamp, captured length, length on the wire, packet data (draft-ietf-opsawg-pcapng 4.3).
-- The data, with padding and options, are at most 2 ^ 24 bytes.
pub record IsStamped (order : Order) (on : Option Interface) (packet : Option Captured) (bytes : List ℕ) : Type 0 where
  pub high : ℕ
  pub low : ℕ
  pub captured : ℕ
  pub original : ℕ
  pub octets : List ℕ
  pub whole : bytes ≡ u32 order high ++ (u32 order low ++ (u32 order captured ++ (u32 order original ++ octets)))
  pub high_fits : high < 2 ^ 32
  pub low_fits : low < 2 ^ 32
  pub captured_fits : captured < 2 ^ 32
  pub original_fits : original < 2 ^ 32
  pub octets_fit : length octets ≤ longest
  pub handed : packet ≡ packet_on on (high * 2 ^ 32 + low) (take captured octets) original

-- An enhanced packet block: the number of an interface of the section in four bytes (draft-ietf-opsawg-pcapng 4.3).
pub record IsEnhanced (order : Order) (known : List Interface) (packet : Option Captured) (body : List ℕ) : Type 0 where
  pub number : ℕ
  pub rest : List ℕ
  pub whole : body ≡ u32 order number ++ rest
  pub fits : number < 2 ^ 32
  pub described : number < length known
  pub stamped : IsStamped order (slice_get known number) packet rest

-- A packet block, which is obsolete: the interface's number in two bytes, and the number of drops (draft-ietf-opsawg-pcapng, appendix A).
pub record IsObsolete (order : Order) (known : List Interface) (packet : Option Captured) (body : List ℕ) : Type 0 where
  pub number : ℕ
  pub drops : ℕ
  pub rest : List ℕ
  pub whole : body ≡ u16 order number ++ (u16 order drops ++ rest)
  pub fits : number < 2 ^ 16
  pub described : number < length known
  pub stamped : IsStamped order (slice_get known number) packet rest

-- A simple packet block, of the first interface: the length on the wire and the packet data, without a time (draft-ietf-opsawg-pcapng 4.4).
-- The interface's snap length says how many of the data were captured. With padding they are at most 2 ^ 24 bytes.
pub record IsSimple (order : Order) (known : List Interface) (packet : Option Captured) (body : List ℕ) : Type 0 where
  pub original : ℕ
  pub octets : List ℕ
  pub whole : body ≡ u32 order original ++ octets
  pub fits : original < 2 ^ 32
  pub octets_fit : length octets ≤ longest
  pub described : 0 < length known
  pub handed : packet ≡ simple_on (slice_get known 0) octets original

-- What a block of that type says in a section with these interfaces: its packet, and the interfaces after it. Other types are passed over.
pub data Says (order : Order) (known : List Interface) (kind : ℕ) (body : List ℕ) (packet : Option Captured) (after : List Interface) : Type 0 where
  describes : (i : Interface) → kind ≡ 1 → IsInterface order i body → packet ≡ None → after ≡ noted known i → Says order known kind body packet after
  enhanced : kind ≡ 6 → IsEnhanced order known packet body → after ≡ known → Says order known kind body packet after
  obsolete : kind ≡ 2 → IsObsolete order known packet body → after ≡ known → Says order known kind body packet after
  simple : kind ≡ 3 → IsSimple order known packet body → after ≡ known → Says order known kind body packet after
  passed_over : kind ≢ 1 → kind ≢ 2 → kind ≢ 3 → kind ≢ 6 → kind ≢ section_type → packet ≡ None → after ≡ known → Says order known kind body packet after

-- ---- any

-- A file begins with a file header or with a section.
pub data IsFirst (bytes : List ℕ) (next : Format) : Type 0 where
  header : (order : Order) (scale link : ℕ) → IsHeader order scale link bytes → next ≡ Pcap order scale link → IsFirst bytes next
  section : (order : Order) → IsSection order bytes → next ≡ Pcapng order [] → IsFirst bytes next

-- A section goes on with a block, or another section follows, without the interfaces of this one.
pub data IsNext (order : Order) (known : List Interface) (bytes : List ℕ) (packet : Option Captured) (next : Format) : Type 0 where
  new_section : (other : Order) → IsSection other bytes → packet ≡ None → next ≡ Pcapng other [] → IsNext order known bytes packet next
  same_section : (kind : ℕ) (body : List ℕ) (after : List Interface) → IsBlock order kind body bytes → Says order known kind body packet after
      → next ≡ Pcapng order after → IsNext order known bytes packet next

-- A record of a pcap file, and its packet.
pub record IsRecorded (order : Order) (scale link : ℕ) (bytes : List ℕ) (packet : Option Captured) : Type 0 where
  pub seconds : ℕ
  pub fraction : ℕ
  pub original : ℕ
  pub octets : List ℕ
  pub written : IsRecord order seconds fraction original octets bytes
  pub handed : packet ≡ Some (recorded scale link seconds fraction octets original)

-- These bytes are one item, from what is known before it: its packet if it has one, and what is known after it.
abbrev pub IsItem : Format → List ℕ → Option Captured → Format → Type 0
IsItem Unknown bytes packet next = (packet ≡ None) × IsFirst bytes next
IsItem (Pcap order scale link) bytes packet next = (next ≡ Pcap order scale link) × IsRecorded order scale link bytes packet
IsItem (Pcapng order known) bytes packet next = IsNext order known bytes packet next
