-- The order in which the items of an opening are judged.
use Rattle.std.specs.Prelude.{◌≡◌, ℕ, ◌-◌, max, Bool, true, false, not, ◌&&◌, ◌||◌, List, [], ◌∷◌, reverse, drop, take, if◌then◌else◌}
use Rattle.std.specs.Prelude.{Option, Some, None, is_some, option_map, unwrap_or}
use Rattle.bt_ext.specs.declared.ids.Rules.TheVariants.{Free}
use Rattle.bt_intro.specs.declared.settling.Receiver.{Receiver}
use Rattle.bt_intro.specs.Hellos.{IsFirstHello, IsStartOf}
use Rattle.bt_judge.specs.Judges.{under}
use Rattle.bt_judge.specs.Readings.{IsStanding}
use Rattle.bt_remarks.specs.declared.events.Side.{Side}
use Rattle.bt_remarks.specs.declared.events.Side.TheVariants.{A, B}
use Rattle.bt_remarks.specs.Said.{is_same, other}
use Rattle.bt_wire.specs.declared.item.Item.{Item}
use Rattle.bt_wire.specs.declared.item.Refusal.{Refusal}
use Rattle.bt_talk.specs.declared.closing.When.{When}
use Rattle.bt_talk.specs.declared.replay.Mark.{Mark}
use Rattle.bt_talk.specs.declared.stage.Stage.{Stage}
use Rattle.bt_talk.specs.Pasts.{Past}
use Rattle.bt_talk.specs.Receivers.{AreItems}
use Rattle.bt_talk.specs.Shown.{Deeds, Turn, items_by, newly, no_deeds}
use Rattle.bt_talk.specs.Stages.{AreItemsIn, receiver_in}

-- what belongs to a side
abbrev pub by_side : {X : Type 0} → Side → X → X → X
by_side A x y = x
by_side B x y = y

-- the first bytes that the side sent
abbrev pub upto : ℕ → Past → Past
upto n p = record p { out = take n p.out }

-- how many bytes of a side's stream its marks reach; the newest mark stands first
abbrev pub reach_of : Side → List Mark → ℕ
reach_of side [] = 0
reach_of side (m ∷ earlier) = if is_same m.side side then max m.length (reach_of side earlier) else reach_of side earlier

-- These are the items of what a side sent from its handshake on, by its receiver, if there is one.
abbrev pub AreItemsBy : Option Receiver → Past → List (ℕ × Item) → Type 0
AreItemsBy None p xs = xs ≡ []
AreItemsBy (Some r) p xs = AreItems r.own p xs

-- the items that are judged of a side's first n bytes
abbrev pub AreItemsTo : Option Receiver → ℕ → Past → List (ℕ × Item) → Type 0
AreItemsTo receiver n p xs = AreItemsBy receiver (upto n p) xs

-- The refusal that stands of what a side sent, by its receiver under the lenient rules; none without a receiver.
abbrev pub IsRefusedBy : Option Receiver → Past → Option Refusal → Type 0
IsRefusedBy None p f = f ≡ None
IsRefusedBy (Some r) p f = (start : ℕ) × IsFirstHello p.front start × IsStanding (under Free r.own) (drop start p.out) f

-- All that a side has said in its first n bytes is known, if its stream is judged and isn't refused in them, and no byte that it had sent was missing.
abbrev pub IsKnownTo : Option Receiver → ℕ → Past → Bool → Bool → Type 0
IsKnownTo None n p whole known = known ≡ false
IsKnownTo (Some r) n p whole known = (f : Option Refusal) × IsRefusedBy (Some r) (upto n p) f × (known ≡ (whole && not (is_some f)))

-- A refusal stands of a side's first m bytes that doesn't stand of its first n; or none does.
abbrev pub IsRefusedSince : Option Receiver → (n m : ℕ) → Past → Option Refusal → Type 0
IsRefusedSince receiver n m p refused =
    (before : Option Refusal) × (now : Option Refusal) × IsRefusedBy receiver (upto n p) before × IsRefusedBy receiver (upto m p) now
    × (refused ≡ newly before now)

-- One of the sides has begun a handshake in the opening, or none has.
abbrev pub HasBegun : Past → Past → Bool → Type 0
HasBegun a b begun = (x : Option ℕ) × (y : Option ℕ) × IsStartOf a.front x × IsStartOf b.front y × (begun ≡ (is_some x || is_some y))

-- What a side did with a mark besides items, if one of the sides has begun a handshake: its first bytes are judged up to n before the mark, and up to k
-- with it. How far its captured bytes reached when it closed counts from its handshake on.
abbrev pub AreMarkDeeds : Bool → Option Receiver → (n k : ℕ) → Past → Mark → Deeds → Type 0
AreMarkDeeds false receiver n k p m d = d ≡ no_deeds
AreMarkDeeds true receiver n k p m d =
    IsRefusedSince receiver n k p d.refused × (start : Option ℕ) × IsStartOf p.front start
    × (d.closed ≡ option_map (λ by. (m.high - unwrap_or start 0, by)) m.closed)

-- The turn of a mark, after the turns of earlier marks: p and q were captured of A and B, and are judged by the receivers x and y. Its items are those that
-- its side's first bytes have up to the mark, besides those of its earlier turns.
pub record IsTurnOf (p q : Past) (x y : Option Receiver) (earlier : List Mark) (m : Mark) (before : List Turn) (t : Turn) : Type 0 where
  pub side : t.side ≡ m.side
  pub when : t.when ≡ m.when
  pub known : IsKnownTo (by_side (other m.side) x y) (reach_of (other m.side) earlier) (by_side (other m.side) p q) m.is_whole t.known
  pub items : AreItemsTo (by_side m.side x y) (reach_of m.side (m ∷ earlier)) (by_side m.side p q) (items_by m.side (t ∷ before))
  pub begun : Bool
  pub has_begun : HasBegun p q begun
  pub deeds : AreMarkDeeds begun (by_side m.side x y) (reach_of m.side earlier) (reach_of m.side (m ∷ earlier)) (by_side m.side p q) m t.deeds

-- Each mark has its turn; of both the newest stands first.
abbrev pub AreTurnsOf : Past → Past → Option Receiver → Option Receiver → List Mark → List Turn → Type 0
AreTurnsOf p q x y [] turns = turns ≡ []
AreTurnsOf p q x y (m ∷ earlier) [] = ⊥
AreTurnsOf p q x y (m ∷ earlier) (t ∷ before) = IsTurnOf p q x y earlier m before t × AreTurnsOf p q x y earlier before

-- the packet of the newest mark, if there is one
abbrev pub IsLatest : List Mark → When → Type 0
IsLatest [] when = Unit {0}
IsLatest (m ∷ earlier) when = when ≡ m.when

-- The marks of an opening, of which the oldest stands first, have their turns. After them what is left of each side is judged, first that of A, and nothing
-- counts as known.
pub record AreOpenedBy (marks : List Mark) (p q : Past) (s s' : Stage) (turns : List Turn) : Type 0 where
  pub x : Turn
  pub y : Turn
  pub before : List Turn
  pub is : turns ≡ y ∷ x ∷ before
  pub marked : AreTurnsOf p q (receiver_in s) (receiver_in s') (reverse marks) before
  pub x_side : x.side ≡ A
  pub x_known : x.known ≡ false
  pub x_when : IsLatest (reverse marks) x.when
  pub x_items : AreItemsIn s p (items_by A (x ∷ before))
  pub x_deeds : x.deeds ≡ no_deeds
  pub y_side : y.side ≡ B
  pub y_known : y.known ≡ false
  pub y_when : IsLatest (reverse marks) y.when
  pub y_items : AreItemsIn s' q (items_by B (y ∷ x ∷ before))
  pub y_deeds : y.deeds ≡ no_deeds
