-- Laws of the flows.
use Rattle.std.specs.Prelude.{◌≡◌, ◌-◌, ◌^◌, ◌≤◌, min, false, List, length, map}
use Rattle.bt_packet.specs.Utp.{UtpPacket}
use Rattle.bt_utp.specs.declared.flow.Counted.{Counted}
use Rattle.bt_utp.specs.Near.{count_near}
use Rattle.bt_utp.specs.Flows.{same_ends, same_id, firsts, ids_of, source_reason, target_reason, flow, flows}

-- all datagrams with the ends of a first one
unfoldable pub whole_flow : List UtpPacket → UtpPacket → Counted
whole_flow ds f = record {
  source = f.source;
  target = f.target;
  count = min (count_near (ids_of f ds)) (2 ^ 64 - 1);
  is_least = false;
  source_reason = source_reason f ds;
  target_reason = target_reason f ds;
}

-- Up to 65,536 ids each datagram is counted.
abbrev pub AllAreCounted : Type 0
AllAreCounted = (ds : List UtpPacket) → length (firsts same_id ds) ≤ 65536 → flows ds ≡ map (whole_flow ds) (firsts same_ends ds)

-- No flow has more than came.
abbrev pub NoneIsTooMuch : Type 0
NoneIsTooMuch = (ds : List UtpPacket) (f : UtpPacket) → (flow ds f).count ≤ count_near (ids_of f ds)

-- A flow is whole if nothing says that there may be more.
abbrev pub LeastIsTold : Type 0
LeastIsTold = (ds : List UtpPacket) (f : UtpPacket) → (flow ds f).is_least ≡ false → flow ds f ≡ whole_flow ds f
