-- Packets of uTP (BEP 29).
use Rattle.std.specs.Prelude.{ℕ, ◌+◌, ◌-◌, ◌/◌, ◌%◌, ◌==◌, nat_lt, min, Bool, true, List, [], ◌∷◌, length, get_or, take, drop, fold, suc}
use Rattle.std.specs.Prelude.{Option, Some, None, option_map, option_and_then, if◌then◌else◌}
use Rattle.std.specs.Option.{option_or}
use Rattle.std.specs.Borrow.{Bor}
use Rattle.bt_packet.specs.Bytes.{word, after}
use Rattle.bt_packet.specs.Ip.{Contents, carried}
use Rattle.bt_packet.specs.Tcp.{port_of}
use Rattle.bt_packet.specs.declared.address.Host.{Host}
use Rattle.bt_packet.specs.declared.address.Address.{Address}
use Rattle.bt_packet.specs.declared.utp.UtpKind.{UtpKind}
use Rattle.bt_packet.specs.declared.utp.UtpKind.TheVariants.{Data, Fin, State, Reset, Syn}
use Rattle.bt_packet.specs.declared.utp.Utp.{Utp}

-- A packet: its type, `connection_id`, `seq_nr`, `ack_nr`, and the reason of the close. Of its payload these bytes were captured, and its size is that
-- on the wire.
pub record UtpPacket : Type 0 where
  pub source : Address
  pub target : Address
  pub kind : UtpKind
  pub id : ℕ
  pub number : ℕ
  pub acked : ℕ
  pub reason : Option ℕ
  pub payload : List ℕ
  pub size : ℕ

abbrev pub utp_packet : Utp → UtpPacket
utp_packet u = record {
  source = u.source;
  target = u.target;
  kind = u.kind;
  id = u.id;
  number = u.number;
  acked = u.acked;
  reason = u.reason;
  payload = u.payload.now;
  size = u.length;
}

-- ---- the header

-- BEP 29, "type": ST_DATA, ST_FIN, ST_STATE, ST_RESET, ST_SYN
abbrev pub type_of : ℕ → Option UtpKind
type_of type =
    if type == 0 then Some Data
    else if type == 1 then Some Fin
    else if type == 2 then Some State
    else if type == 3 then Some Reset
    else if type == 4 then Some Syn
    else None

-- The first byte has the type in its upper 4 bits, and in the lower ones the version, which is 1.
abbrev pub kind_of : ℕ → Option UtpKind
kind_of first = if first % 16 == 1 then type_of (first / 16) else None

-- BEP 29, "type": ST_DATA always has a payload. ST_FIN may have one, the other types have none.
abbrev pub may_carry : UtpKind → ℕ → Bool
may_carry Data size = nat_lt 0 size
may_carry Fin size = true
may_carry State size = size == 0
may_carry Reset size = size == 0
may_carry Syn size = size == 0

-- ---- extensions

-- an extension of this number, and what it says
pub record UtpExtension : Type 0 where
  pub kind : ℕ
  pub content : List ℕ

abbrev pub with_extension : UtpExtension → List UtpExtension × List ℕ → List UtpExtension × List ℕ
with_extension e c = (e ∷ c.0, c.1)

-- BEP 29, "extension": each one has the number of the next one, its length, and as many bytes; 0 ends the chain. There are at most n.
unfoldable pub chain : ℕ → ℕ → List ℕ → Option (List UtpExtension × List ℕ)
chain (suc n) kind (next ∷ size ∷ rest) =
    if kind == 0 then Some ([], next ∷ size ∷ rest)
    else option_and_then (λ left. option_map (with_extension (record { kind = kind; content = take size rest })) (chain n next left)) (after size rest)
chain n kind bytes = if kind == 0 then Some ([], bytes) else None

-- the number in the last two of 4 bytes; 0 is none
abbrev pub reason_of : List ℕ → Option ℕ
reason_of (a ∷ b ∷ c ∷ d ∷ []) = if word c d == 0 then None else Some (word c d)
reason_of content = None

-- libtorrent's extension 3 says why the sender closes
abbrev pub reason_in : UtpExtension → Option ℕ
reason_in e = if e.kind == 3 then reason_of e.content else None

-- the reason that an extension says, or else the one before
abbrev pub later_reason : Option ℕ → UtpExtension → Option ℕ
later_reason before e = option_or (reason_in e) before

-- the last reason that extensions say
abbrev pub close_reason : List UtpExtension → Option ℕ
close_reason es = fold later_reason None es

abbrev pub said_by : List UtpExtension × List ℕ → Option ℕ × List ℕ
said_by c = (close_reason c.0, c.1)

abbrev pub reason_pair : Option ℕ × Bor (List ℕ) → Option ℕ × List ℕ
reason_pair p = (p.0, p.1.now)

-- ---- the packet

-- the number of two bytes at i
abbrev pub word_at : List ℕ → ℕ → ℕ
word_at bytes i = word (get_or bytes i 0) (get_or bytes (i + 1) 0)

-- what a header, its extensions and its payload say
abbrev pub headed : Address → Address → UtpKind → List ℕ → ℕ → Option ℕ × List ℕ → UtpPacket
headed source target kind header size said = record {
  source = source;
  target = target;
  kind = kind;
  id = word_at header 2;
  number = word_at header 16;
  acked = word_at header 18;
  reason = said.0;
  payload = said.1;
  size = size;
}

abbrev pub if_carried : UtpPacket → Option UtpPacket
if_carried p = if may_carry p.kind p.size then Some p else None

-- after a header: a chain of extensions, and the payload. `size` is what follows the header on the wire.
abbrev pub after_header : Address → Address → UtpKind → List ℕ → ℕ → List ℕ → Option UtpPacket
after_header source target kind header size rest =
    option_and_then (λ c. if_carried (headed source target kind header (size - (length rest - length c.1)) (said_by c)))
    (chain (length rest) (get_or header 1 0) rest)

abbrev pub after_kind : Address → Address → List ℕ → ℕ → List ℕ → Option UtpPacket
after_kind source target header size rest =
    option_and_then (λ kind. after_header source target kind header size rest) (kind_of (get_or header 0 0))

-- a header of 20 bytes, and what follows it. `size` is that of all on the wire.
abbrev pub packet_in : Address → Address → ℕ → List ℕ → Option UtpPacket
packet_in source target size bytes =
    if nat_lt (length bytes) 20 then None else after_kind source target (take 20 bytes) (size - 20) (drop 20 bytes)

-- ---- the datagram

-- The data's length: the header's length field counts its 8 bytes too (RFC 768). The data end with it or with the packet of IP, whichever is first.
abbrev pub data_size : ℕ → List ℕ → ℕ
data_size size header = min (word_at header 4) size - 8

-- what a header of the ports, the length and a checksum says of what follows it
abbrev pub after_ports : Host → Host → ℕ → List ℕ → List ℕ → Option UtpPacket
after_ports source target size header rest =
    packet_in (port_of source (get_or header 0 0) (get_or header 1 0)) (port_of target (get_or header 2 0) (get_or header 3 0))
    (data_size size header) (take (data_size size header) rest)

abbrev pub utp : Host → Host → ℕ → List ℕ → Option UtpPacket
utp source target size bytes = if nat_lt (length bytes) 8 then None else after_ports source target size (take 8 bytes) (drop 8 bytes)

-- the protocol 17 is UDP
abbrev pub utp_in : Contents → Option UtpPacket
utp_in c = if c.protocol == 17 then utp c.source c.target c.size c.payload else None

-- the packet of uTP that a frame carries, if the frame is `wire` bytes long on the wire
abbrev pub utp_of : ℕ → List ℕ → ℕ → Option UtpPacket
utp_of link bytes wire = option_and_then utp_in (carried link bytes wire)
