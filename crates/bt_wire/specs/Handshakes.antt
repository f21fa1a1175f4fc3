-- The handshake (BEP 3, "peer protocol"), and what two ends agree on by it.
use Rattle.std.specs.Prelude.{◌≡◌, ◌==◌, ℕ, ◌+◌, ◌<◌, ◌^◌, Bool, true, false, not, ◌&&◌, List, [], ◌∷◌, ◌++◌, length, take, drop, nat_le, Option, Some}
use Rattle.std.specs.Prelude.{None, is_some, unwrap_or, option_map, codes, if◌then◌else◌}
use Rattle.std.specs.Int.RustNames.{bit_and}
use Rattle.std.specs.Str.{bytes_eq}
use Rattle.bt_wire.specs.declared.context.Context.{Context}
use Rattle.bt_wire.specs.declared.context.Own.{Own}
use Rattle.bt_wire.specs.declared.fault.Reason.TheVariants.{BadProtocol, WrongInfoHash}
use Rattle.bt_wire.specs.declared.fault.Refused.{Refused}
use Rattle.bt_wire.specs.declared.handshake.Handshake.{Handshake}
use Rattle.bt_wire.specs.declared.reserved.Reserved.{Reserved}
use Rattle.bt_wire.specs.Numbers.{be64}
use Rattle.bt_wire.specs.Tables.{Row, row, first_fault}

-- "The handshake starts with character nineteen (decimal) followed by the string 'BitTorrent protocol'."
abbrev pub protocol : List ℕ
protocol = 19 ∷ codes "BitTorrent protocol"

-- the 68 bytes: the protocol, the reserved bytes, the info hash and the peer id
abbrev pub hand : Handshake → List ℕ
hand h = protocol ++ be64 h.reserved.0 ++ h.info_hash ++ h.peer_id

-- its fields have their lengths
pub record IsHandshake (h : Handshake) : Type 0 where
  pub reserved : h.reserved.0 < 2 ^ 64
  pub info_hash : length h.info_hash ≡ 20
  pub peer_id : length h.peer_id ≡ 20

-- the bytes begin with this handshake
pub record IsHandshakeOf (b : List ℕ) (h : Handshake) : Type 0 where
  pub fits : IsHandshake h
  pub parts : b ≡ hand h ++ drop 68 b

-- the least place at which both lists have a byte and the bytes differ
abbrev pub first_difference : List ℕ → List ℕ → Option ℕ
first_difference [] ys = None
first_difference (x ∷ xs) [] = None
first_difference (x ∷ xs) (y ∷ ys) = if x == y then option_map (λ i. i + 1) (first_difference xs ys) else Some 0

-- whether another info hash is wanted
abbrev pub is_other_hash : Option (List ℕ) → List ℕ → Bool
is_other_hash None hash = false
is_other_hash (Some own) hash = not (bytes_eq own hash)

-- the faults of the bytes of a handshake, as many as are there
abbrev pub hand_rows : Own → List ℕ → List Row
hand_rows own b =
    row BadProtocol (unwrap_or (first_difference protocol b) 0) true (is_some (first_difference protocol b))
    ∷ row WrongInfoHash 28 (nat_le 48 (length b)) (is_other_hash own.info_hash (take 20 (drop 28 b)))
    ∷ []

unfoldable pub hand_fault : Own → List ℕ → Option Refused
hand_fault own b = first_fault (hand_rows own b)

-- BEP 6: an end says that it knows the Fast Extension by "reserved[7] |= 0x04"
abbrev pub sets_fast : Reserved → Bool
sets_fast r = bit_and r.0 4 == 4

-- BEP 10: "reserved_byte[5] & 0x10" says that an end knows the Extension Protocol
abbrev pub sets_extension : Reserved → Bool
sets_extension r = bit_and r.0 1048576 == 1048576

-- what both ends have agreed on, as the receiver judges by it
abbrev pub negotiated : Own → Reserved → Context
negotiated own peer = record {
  fast = sets_fast own.reserved && sets_fast peer;
  ext = sets_extension own.reserved && sets_extension peer;
  pieces = own.pieces;
  reg = own.reg;
  rules = own.rules;
  limit = own.limit;
}
