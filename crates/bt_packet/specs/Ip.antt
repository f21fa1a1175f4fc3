-- Packets of IP, as far as they say what they carry.
use Rattle.std.specs.Prelude.{ℕ, ◌+◌, ◌-◌, ◌*◌, ◌/◌, ◌%◌, ◌||◌, ◌==◌, nat_lt, bit_and, not, Bool, true, false, List, [], ◌∷◌, length, take, drop, zero, suc}
use Rattle.std.specs.Prelude.{Option, Some, None, option_map, option_and_then, if◌then◌else◌}
use Rattle.std.specs.Borrow.{Bor}
use Rattle.bt_packet.specs.Bytes.{word, after}
use Rattle.bt_packet.specs.Links.{gre, packet_in}
use Rattle.bt_packet.specs.declared.address.Host.{Host}
use Rattle.bt_packet.specs.declared.address.Host.TheVariants.{V4, V6}
use Rattle.bt_packet.specs.declared.ip.Carried.{Carried}

-- What a packet carries: a payload of this protocol, of which these bytes were captured, and its size on the wire.
pub record Contents : Type 0 where
  pub protocol : ℕ
  pub source : Host
  pub target : Host
  pub payload : List ℕ
  pub size : ℕ

abbrev pub contents : Carried → Contents
contents c = record { protocol = c.protocol; source = c.source; target = c.target; payload = c.payload.now; size = c.length }

-- a length of 0 stands for that on the wire: the network card cuts the packet (segmentation offload)
abbrev pub total_of : ℕ → ℕ → ℕ
total_of said wire = if said == 0 then wire else said

-- ---- RFC 791

-- a fragment has more after it, or an offset (RFC 791 3.1)
abbrev pub is_fragment : ℕ → Bool
is_fragment flags = nat_lt 0 (bit_and flags 0x3fff)

-- What follows the first 20 bytes: options up to the header's length, a payload up to the total length, and padding (RFC 791 3.1).
unfoldable pub ipv4_payload : ℕ → ℕ → List ℕ → Option (List ℕ)
ipv4_payload header total rest = if nat_lt header 20 || nat_lt total header then None else option_map (take (total - header)) (after (header - 20) rest)

abbrev pub ipv4_carried : ℕ → Host → Host → ℕ → List ℕ → Contents
ipv4_carried protocol source target size payload = record { protocol = protocol; source = source; target = target; payload = payload; size = size }

-- the length of the header, which stands in words of 4 bytes
abbrev pub ipv4_header : ℕ → ℕ
ipv4_header first = 4 * (first % 16)

abbrev pub ipv4_whole : ℕ → ℕ → ℕ → Host → Host → List ℕ → Option Contents
ipv4_whole header total protocol source target rest = option_map (ipv4_carried protocol source target (total - header)) (ipv4_payload header total rest)

-- RFC 791 3.1. A fragment carries a part of something.
unfoldable pub ipv4 : ℕ → List ℕ → Option Contents
ipv4 wire (first ∷ service ∷ t0 ∷ t1 ∷ i0 ∷ i1 ∷ f0 ∷ f1 ∷ ttl ∷ protocol ∷ k0 ∷ k1 ∷ s0 ∷ s1 ∷ s2 ∷ s3 ∷ d0 ∷ d1 ∷ d2 ∷ d3 ∷ rest) =
    if is_fragment (word f0 f1) then None
    else ipv4_whole (ipv4_header first) (total_of (word t0 t1) wire) protocol (V4 (s0 ∷ s1 ∷ s2 ∷ s3 ∷ [])) (V4 (d0 ∷ d1 ∷ d2 ∷ d3 ∷ [])) rest
ipv4 wire bytes = None

-- ---- RFC 8200

-- hop-by-hop options, routing, a fragment, authentication and destination options (RFC 8200 4.1)
abbrev pub is_extension : ℕ → Bool
is_extension protocol = (protocol == 0) || ((protocol == 43) || ((protocol == 44) || ((protocol == 51) || (protocol == 60))))

-- The size of what follows the first two bytes of an extension header: in all it has 8 bytes if it is one of a fragment (RFC 8200 4.5), the
-- second byte and 2 times 4 bytes if it is one of authentication (RFC 4302 2.2), else the second byte and 1 times 8 bytes (RFC 8200 4.3).
abbrev pub content_size : ℕ → ℕ → ℕ
content_size protocol words = if protocol == 44 then 6 else if protocol == 51 then 4 * words + 6 else 8 * words + 6

-- no offset, and nothing after it: it is the whole packet (RFC 6946 2)
unfoldable pub is_atomic : List ℕ → Bool
is_atomic (a ∷ b ∷ rest) = bit_and (word a b) 0xfff9 == 0
is_atomic bytes = false

-- what an extension header says after its first two bytes isn't that a part follows
abbrev pub is_whole : ℕ → List ℕ → Bool
is_whole protocol content = not (protocol == 44) || is_atomic content

-- what follows an extension header, after whose first two bytes this comes
abbrev pub past : ℕ → ℕ → List ℕ → Option (List ℕ)
past protocol words rest = if is_whole protocol rest then after (content_size protocol words) rest else None

-- The first protocol that is no extension, and what follows the extension headers. Each begins with the next protocol and its length
-- (RFC 8200 4.3). There are at most n.
unfoldable pub upper : ℕ → ℕ → List ℕ → Option (ℕ × List ℕ)
upper (suc n) protocol (next ∷ words ∷ rest) =
    if is_extension protocol then option_and_then (upper n next) (past protocol words rest) else Some (protocol, next ∷ words ∷ rest)
upper n protocol bytes = if is_extension protocol then None else Some (protocol, bytes)

abbrev pub pair_of : ℕ × Bor (List ℕ) → ℕ × List ℕ
pair_of p = (p.0, p.1.now)

abbrev pub ipv6_carried : Host → Host → ℕ → List ℕ → ℕ × List ℕ → Contents
ipv6_carried source target size payload p =
    record { protocol = p.0; source = source; target = target; payload = p.1; size = size - (length payload - length p.1) }

abbrev pub ipv6_whole : ℕ → Host → Host → ℕ → List ℕ → Option Contents
ipv6_whole protocol source target size payload = option_map (ipv6_carried source target size payload) (upper (length payload) protocol payload)

-- two addresses of 16 bytes, a payload, and padding
abbrev pub after_ipv6 : ℕ → ℕ → List ℕ → Option Contents
after_ipv6 size protocol rest =
    if nat_lt (length rest) 32 then None else ipv6_whole protocol (V6 (take 16 rest)) (V6 (take 16 (drop 16 rest))) size (take size (drop 32 rest))

-- RFC 8200 3
unfoldable pub ipv6 : ℕ → List ℕ → Option Contents
ipv6 wire (first ∷ class ∷ f0 ∷ f1 ∷ l0 ∷ l1 ∷ next ∷ limit ∷ rest) = after_ipv6 (total_of (word l0 l1) (wire - 40)) next rest
ipv6 wire bytes = None

-- ----

-- A packet begins with its version, of 4 bits (RFC 791 3.1, RFC 8200 3).
unfoldable pub ip : ℕ → List ℕ → Option Contents
ip wire (first ∷ rest) = if first / 16 == 4 then ipv4 wire (first ∷ rest) else if first / 16 == 6 then ipv6 wire (first ∷ rest) else None
ip wire [] = None

-- what a packet of a frame carries, if the frame is `wire` bytes long on the wire
abbrev pub ip_after : ℕ → List ℕ → List ℕ → Option Contents
ip_after wire bytes packet = ip (wire - (length bytes - length packet)) packet

-- ---- packets in packets

-- Authentication: the next protocol, a length, and what else it says (RFC 4302 2).
unfoldable pub authenticated : Contents → List ℕ → Option Contents
authenticated c (next ∷ words ∷ rest) = option_map (ipv4_carried next c.source c.target (c.size - (4 * words + 8))) (after (4 * words + 6) rest)
authenticated c bytes = None

-- IPv4 in IP (RFC 2003) and IPv6 in IP (RFC 4213 3)
abbrev pub is_ip_in_ip : ℕ → Bool
is_ip_in_ip protocol = (protocol == 4) || (protocol == 41)

-- the packet that a payload of this protocol carries: all of it, or after a header of GRE (RFC 2784)
abbrev pub tunnelled : ℕ → List ℕ → Option (List ℕ)
tunnelled protocol payload = if protocol == 47 then gre payload else Some payload

abbrev pub is_wrapped : ℕ → Bool
is_wrapped protocol = is_ip_in_ip protocol || ((protocol == 47) || (protocol == 51))

-- what is in the contents
abbrev pub unwrap : Contents → Option Contents
unwrap c = if c.protocol == 51 then authenticated c c.payload else option_and_then (ip_after c.size c.payload) (tunnelled c.protocol c.payload)

-- the first contents that aren't wrapped, at most n times
unfoldable pub unwrapped : ℕ → Contents → Option Contents
unwrapped zero c = if is_wrapped c.protocol then None else Some c
unwrapped (suc n) c = if is_wrapped c.protocol then option_and_then (unwrapped n) (unwrap c) else Some c

abbrev pub innermost : Contents → Option Contents
innermost c = unwrapped (length c.payload) c

-- what the packet of a frame carries, perhaps another packet
abbrev pub outer : ℕ → List ℕ → ℕ → Option Contents
outer link bytes wire = option_and_then (ip_after wire bytes) (packet_in link bytes)

-- what the innermost packet of a frame carries
abbrev pub carried : ℕ → List ℕ → ℕ → Option Contents
carried link bytes wire = option_and_then innermost (outer link bytes wire)
