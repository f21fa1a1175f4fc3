-- What is kept of the datagrams that came.
use Rattle.std.specs.Prelude.{◌≡◌, ℕ, ◌+◌, nat_lt, ◌||◌, ◌&&◌, ◌==◌, not, Bool, true, false, List, [], ◌∷◌, ◌++◌, length, Option, Some, None, if◌then◌else◌}
use Rattle.std.specs.List.{list_any, slice_get}
use Rattle.std.specs.Option.{option_map, option_or}
use Rattle.std.specs.Ordering.{ordering_then}
use Rattle.std.specs.declared.cmp.Ordering.{Ordering}
use Rattle.std.specs.BTreeMap.{get}
use Rattle.bt_packet.specs.declared.address.Address.{Address}
use Rattle.bt_packet.specs.Utp.{UtpPacket}
use Rattle.bt_packet.specs.contracts.address.AddressOrd.TheImpl as address_ord
use Rattle.bt_utp.specs.declared.flow.Flow.{Flow}
use Rattle.bt_utp.specs.declared.flows.UtpFlows.{UtpFlows}
use Rattle.bt_utp.specs.Flows.{same_ends, same_id, is_from, firsts, kept, ids_of, source_reason, target_reason}
use Rattle.bt_utp.specs.Ids.{AreIds}

-- why the two ends closed, after one more datagram between them
abbrev pub source_after : Flow → UtpPacket → Option ℕ
source_after w d = if is_from w.source w.target d then option_or d.reason w.source_reason else w.source_reason

abbrev pub target_after : Flow → UtpPacket → Option ℕ
target_after w d = if is_from w.source w.target d then w.target_reason else option_or d.reason w.target_reason

-- the reasons are those after it, or as before
pub record Notes (d : UtpPacket) (old new : Flow) : Type 0 where
  pub source : new.source_reason ≡ source_after old d
  pub target : new.target_reason ≡ target_after old d

pub record KeepsReasons (old new : Flow) : Type 0 where
  pub source : new.source_reason ≡ old.source_reason
  pub target : new.target_reason ≡ old.target_reason

-- A flow takes a datagram, if the flow has its id or there is room. Else there may be more than is counted.
pub record Takes (ids : List ℕ) (d : UtpPacket) (room : Bool) (old new : Flow) (adds : Bool) : Type 0 where
  pub source : new.source ≡ old.source
  pub target : new.target ≡ old.target
  pub kept : (list_any (λ j. d.id == j) ids || room) ≡ true → AreIds (ids ++ d.id ∷ []) new.ids × (new.is_least ≡ old.is_least) × Notes d old new
  pub missed : (list_any (λ j. d.id == j) ids || room) ≡ false → AreIds ids new.ids × (new.is_least ≡ true) × KeepsReasons old new
  pub more : adds ≡ not (list_any (λ j. d.id == j) ids) && room

-- These datagrams came, and this flow is of those with the ends of the first one.
pub record IsFlow (ds : List UtpPacket) (f : UtpPacket) (w : Flow) : Type 0 where
  pub source : w.source ≡ f.source
  pub target : w.target ≡ f.target
  pub ids : AreIds (ids_of f (kept ds)) w.ids
  pub is_least : w.is_least ≡ nat_lt (length (ids_of f (kept ds))) (length (ids_of f ds))
  pub source_reason : w.source_reason ≡ source_reason f (kept ds)
  pub target_reason : w.target_reason ≡ target_reason f (kept ds)

-- the flows of these first ones, in order
abbrev pub AreFlows : List UtpPacket → List UtpPacket → List Flow → Type 0
AreFlows ds [] [] = Unit {0}
AreFlows ds [] (w ∷ ws) = ⊥
AreFlows ds (f ∷ fs) [] = ⊥
AreFlows ds (f ∷ fs) (w ∷ ws) = IsFlow ds f w × AreFlows ds fs ws

-- the place of the first one that passes
unfoldable pub place : (UtpPacket → Bool) → List UtpPacket → Option ℕ
place test [] = None
place test (d ∷ ds) = if test d then Some 0 else option_map (λ i. i + 1) (place test ds)

-- how keys are ordered
abbrev pub order : Address × Address → Address × Address → Ordering
order x y = ordering_then ((address_ord.ghosts).cmp x.0 y.0) ((address_ord.ghosts).cmp x.1 y.1)

-- These datagrams came.
pub record AreCounted (ds : List UtpPacket) (s : UtpFlows) : Type 0 where
  pub flows : AreFlows ds (firsts same_ends (kept ds)) s.flows.items
  pub places : (a b : Address) → get order s.places (a, b) ≡ place (is_from a b) (firsts same_ends (kept ds))
  pub ids : s.ids ≡ length (firsts same_id (kept ds))

-- the place of a datagram's flow, or there is none
abbrev pub IsPlace : List UtpPacket → UtpPacket → Option ℕ → Type 0
IsPlace fs d None = list_any (same_ends d) fs ≡ false
IsPlace fs d (Some i) = (f : UtpPacket) × (slice_get fs i ≡ Some f) × (same_ends d f ≡ true)
