-- The datagrams of uTP (BEP 29) between each two ends.
use Rattle.std.specs.Prelude.{ℕ, ◌-◌, ◌^◌, ◌==◌, ◌&&◌, ◌||◌, not, nat_lt, min, Bool, List, [], ◌∷◌, ◌++◌, length, map, fold, Option, None, if◌then◌else◌}
use Rattle.std.specs.List.{filter, list_any}
use Rattle.std.specs.Option.{option_or}
use Rattle.bt_packet.specs.declared.address.Address.{Address}
use Rattle.bt_packet.specs.Utp.{UtpPacket}
use Rattle.bt_packet.specs.contracts.address.AddressPartialEq.TheImpl as address_eq
use Rattle.bt_utp.specs.declared.flow.Counted.{Counted}
use Rattle.bt_utp.specs.Near.{count_near}

-- what `==` says of two addresses
abbrev pub same_address : Address → Address → Bool
same_address = (address_eq.ghosts).eq

abbrev pub is_from : Address → Address → UtpPacket → Bool
is_from source target d = same_address source d.source && same_address target d.target

-- between the same two ends, in either direction
unfoldable pub same_ends : UtpPacket → UtpPacket → Bool
same_ends a b = is_from a.source a.target b || is_from a.target a.source b

unfoldable pub same_id : UtpPacket → UtpPacket → Bool
same_id a b = same_ends a b && (a.id == b.id)

-- the first one of each kind, in order
unfoldable pub firsts : (UtpPacket → UtpPacket → Bool) → List UtpPacket → List UtpPacket
firsts same ds = fold (λ fs d. if list_any (same d) fs then fs else fs ++ d ∷ []) [] ds

-- There is room for 65,536 ids, of all flows together.
unfoldable pub has_room : List UtpPacket → UtpPacket → Bool
has_room ds d = list_any (same_id d) ds || nat_lt (length (firsts same_id ds)) 65536

-- those that are counted: each for whose id there is room
unfoldable pub kept : List UtpPacket → List UtpPacket
kept ds = fold (λ ks d. if has_room ks d then ks ++ d ∷ [] else ks) [] ds

-- those with these ends
unfoldable pub between : UtpPacket → List UtpPacket → List UtpPacket
between f ds = filter (same_ends f) ds

unfoldable pub ids_of : UtpPacket → List UtpPacket → List ℕ
ids_of f ds = map (λ d. d.id) (between f ds)

-- The last reason of a close that they say. (What else a closing end sends doesn't take it back.)
abbrev pub last_reason : List UtpPacket → Option ℕ
last_reason ds = fold (λ before d. option_or d.reason before) None ds

-- why the end that sent the first one closed
unfoldable pub source_reason : UtpPacket → List UtpPacket → Option ℕ
source_reason f ds = last_reason (filter (is_from f.source f.target) (between f ds))

-- why the other end closed
unfoldable pub target_reason : UtpPacket → List UtpPacket → Option ℕ
target_reason f ds = last_reason (filter (λ d. not (is_from f.source f.target d)) (between f ds))

-- How many datagrams with the ends of a first one have another one near, and why both ends closed. There may be more, if one of them isn't counted.
unfoldable pub flow : List UtpPacket → UtpPacket → Counted
flow ds f = record {
  source = f.source;
  target = f.target;
  count = min (count_near (ids_of f (kept ds))) (2 ^ 64 - 1);
  is_least = nat_lt (length (ids_of f (kept ds))) (length (ids_of f ds));
  source_reason = source_reason f (kept ds);
  target_reason = target_reason f (kept ds);
}

-- each two ends, in the order of their first datagrams
unfoldable pub flows : List UtpPacket → List Counted
flows ds = map (flow ds) (firsts same_ends (kept ds))
