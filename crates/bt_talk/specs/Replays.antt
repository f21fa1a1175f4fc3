-- How far the bytes of the opening are judged, at its end.
use Rattle.bt_talk.specs.declared.terms.Terms.{Terms}
use Rattle.std.specs.Prelude.{◌≡◌, ◌≤◌, ℕ, ◌+◌, ◌-◌, ◌^◌, min, max, nat_le, Bool, true, false, List, [], ◌∷◌, ◌++◌, drop, take, length}
use Rattle.std.specs.Prelude.{Option, Some, None, Box}
use Rattle.std.specs.declared.alloc.Global.{Global}
use Rattle.bt_intro.specs.declared.settling.Receiver.{Receiver}
use Rattle.bt_intro.specs.Hellos.{IsFirstHello, IsStartOf}
use Rattle.bt_intro.specs.Hearing.{IsHeardOf}
use Rattle.bt_judge.specs.Judges.{AreJudged}
use Rattle.bt_remarks.specs.declared.events.Side.{Side}
use Rattle.bt_remarks.specs.declared.events.Side.TheVariants.{A, B}
use Rattle.bt_wire.specs.declared.item.Item.{Item}
use Rattle.bt_talk.specs.declared.direction.Direction.{Direction}
use Rattle.bt_talk.specs.declared.replay.Close.{Close}
use Rattle.bt_talk.specs.declared.replay.Close.TheVariants.{Passed, Ahead}
use Rattle.bt_talk.specs.declared.replay.Mark.{Mark}
use Rattle.bt_talk.specs.declared.replay.Opened.{Opened}
use Rattle.bt_talk.specs.declared.replay.Replay.{Replay}
use Rattle.bt_talk.specs.Cuts.{IsCutBy, IsCutNow, cut_length}
use Rattle.bt_talk.specs.Marks.{AreMarkDeeds, AreOpenedBy, AreTurnsOf, HasBegun, IsKnownTo, IsLatest, reach_of, upto}
use Rattle.bt_talk.specs.Stages.{IsStage, AreItemsIn, IsHeard, receiver_in}
use Rattle.bt_talk.specs.declared.stage.Stage.{Stage}
use Rattle.bt_talk.specs.declared.stage.Judged.{Judged}
use Rattle.bt_talk.specs.declared.watch.Watch.{Watch}
use Rattle.bt_talk.specs.Pasts.{Past}
use Rattle.bt_talk.specs.declared.rows.Rows.{Rows}
use Rattle.bt_talk.specs.Rows.{Shown}
use Rattle.bt_talk.specs.Shows.{Appends}
use Rattle.bt_talk.specs.Shown.{IsSeen, Turn, told_by, items_by, no_deeds, AreTurnRows}

-- Of what the side sent from its handshake on these bytes are taken, and these are left; those that were taken are judged, and have these items.
pub record IsJudgedTo (p : Past) (start : ℕ) (taken : List ℕ) (xs : List (ℕ × Item)) (left : List ℕ) (j : Judged) : Type 0 where
  pub first : IsFirstHello p.front start
  pub whole : drop start p.out ≡ taken ++ left
  pub bep : List (ℕ × Item)
  pub judged : AreJudged j.receiver.own taken xs bep j.judge

-- a stream with its receiver, in memory of its own
abbrev pub Held : Type 0
Held = Box Judged Global

abbrev pub IsReplayBy : Past → Option Receiver → ℕ → List ℕ → List (ℕ × Item) → List ℕ → Option Held → Type 0
IsReplayBy p receiver start taken xs left None = (receiver ≡ None) × (xs ≡ [])
IsReplayBy p receiver start taken xs left (Some j) = (receiver ≡ Some j.value.receiver) × IsJudgedTo p start taken xs left j.value

-- ---- up to the close

abbrev pub close_length : Close → Option ℕ
close_length (Passed cut) = cut_length cut
close_length (Ahead n after) = Some n

abbrev pub is_passed : Close → Bool
is_passed (Passed cut) = true
is_passed (Ahead n after) = false

-- The close is awaited, and comes up to this length.
abbrev pub closes_to : ℕ → Close → Bool
closes_to n (Passed cut) = false
closes_to n (Ahead m after) = nat_le m n

-- The bytes from a place on are these up to the close, and others.
abbrev pub IsParted : ℕ → List ℕ → List ℕ → Close → Type 0
IsParted start out left (Passed cut) = (cut ≡ None) × (left ≡ drop start out)
IsParted start out left (Ahead n after) = (left ≡ drop start (take n out)) × (drop start out ≡ left ++ after.now)

-- After the first n bytes these follow.
abbrev pub IsFollowed : Past → ℕ → List ℕ → Type 0
IsFollowed p n after = (start : ℕ) → IsFirstHello p.front start → drop start p.out ≡ drop start (take n p.out) ++ after

-- The connection was closed after so many bytes of the side: up to there its bytes are judged first, or the last of them is known.
abbrev pub IsReplayOf : Past → Option Receiver → Option ℕ → ℕ → List ℕ → List (ℕ × Item) → List ℕ → Option Held → Close → Type 0
IsReplayOf p receiver cut start taken xs left judged (Passed None) = (cut ≡ None) × IsReplayBy p receiver start taken xs left judged
IsReplayOf p receiver cut start taken xs left judged (Passed (Some c)) =
    (cut ≡ Some c.length) × IsReplayBy p receiver start taken xs left judged × IsCutBy receiver p.front (take c.length p.out) c.last
IsReplayOf p receiver cut start taken xs left judged (Ahead n after) =
    (cut ≡ Some n) × IsReplayBy (upto n p) receiver start taken xs left judged × IsFollowed p n after.now

-- So many bytes are taken of all that are there from a place on, or all of them.
abbrev pub IsReachedIn : ℕ → ℕ → ℕ → ℕ → Type 0
IsReachedIn start n taken left = taken ≡ min (n - start) (taken + left)

-- The bytes from a place on are taken as far as the side's first n bytes reach, and no further than the close that is awaited.
abbrev pub IsReached : ℕ → ℕ → List ℕ → List ℕ → Close → Type 0
IsReached start n taken left (Passed cut) = IsReachedIn start n (length taken) (length left)
IsReached start n taken left (Ahead m after) =
    (n ≤ m) × IsReachedIn start n (length taken) (length left) × IsReachedIn start m (length taken + length left) (length after.now)

-- These items of a side's opening are judged by its receiver, if there is one, as far as its first n bytes reach.
pub record IsReplay (p : Past) (receiver : Option Receiver) (cut : Option ℕ) (n : ℕ) (xs : List (ℕ × Item)) (r : Replay) : Type 0 where
  pub begun : IsStartOf p.front r.start
  pub start : ℕ
  pub taken : List ℕ
  pub is : IsReplayOf p receiver cut start taken xs r.rest.now r.judged r.close
  pub place : r.at ≡ min (start + length taken) (2 ^ 64 - 1)
  pub reached : IsReached start n taken r.rest.now r.close

-- ---- one turn

-- It is this turn, in which nothing besides items is told yet.
pub record IsTurn (t : Turn) (w : Watch) : Type 0 where
  pub side : w.side ≡ t.side
  pub known : w.known ≡ t.known
  pub when : w.when ≡ t.when
  pub deeds : t.deeds ≡ no_deeds

-- In this turn items of its side were judged, as far as the side's first n bytes reach.
pub record IsReplayed (since : Rows) (p : Past) (receiver : Option Receiver) (cut : Option ℕ) (n : ℕ) (before : List Turn) (t : Turn) (r : Replay) (w : Watch)
    : Type 0 where
  pub is : IsReplay p receiver cut n (items_by t.side before ++ t.items) r
  pub turn : IsTurn t w
  pub seen : IsSeen since (t ∷ before) w

-- the turn with further items
abbrev pub with_more : Turn → List (ℕ × Item) → Turn
with_more t more = record t { items = t.items ++ more }

-- Further items were judged in a turn. How far the side's first bytes reach then is as is said.
abbrev pub Replays : (ℕ → ℕ → Type 0) → Replay → Watch → Replay → Watch → Type 0
Replays Reaches r w r' w' = (since : Rows) (p : Past) (receiver : Option Receiver) (cut : Option ℕ) (n : ℕ) (before : List Turn) (t : Turn)
    → IsReplayed since p receiver cut n before t r w
    → (m : ℕ) × Reaches n m × (more : List (ℕ × Item)) × IsReplayed since p receiver cut m before (with_more t more) r' w'

-- They reach the close, if it is awaited.
abbrev pub PassesAt : Close → ℕ → ℕ → Type 0
PassesAt (Passed cut) n m = m ≡ n
PassesAt (Ahead k after) n m = (n ≤ k) × (m ≡ k)

-- They reach no further than these, or else as far as before.
abbrev pub PassesTo : ℕ → ℕ → ℕ → Type 0
PassesTo k n m = max k m ≡ max k n

-- ---- both sides

-- A mark has its turn: of its side, judged by the receiver x, its items; the other side's stream is judged by y, as far as its first k bytes reach.
pub record GoesTo (since : Rows) (m : Mark) (p q : Past) (x y : Option Receiver) (cut : Option ℕ) (n k : ℕ) (before : List Turn) (r : Replay) (w : Watch)
    : Type 0 where
  pub turn : Turn
  pub side : turn.side ≡ m.side
  pub when : turn.when ≡ m.when
  pub known : IsKnownTo y k q m.is_whole turn.known
  pub is : IsReplay p x cut (max m.length n) (items_by m.side (turn ∷ before)) r
  pub begun : Bool
  pub has_begun : HasBegun p q begun
  pub deeds : AreMarkDeeds begun x n (max m.length n) p m turn.deeds
  pub seen : IsSeen since (turn ∷ before) w
  pub now : w.when ≡ m.when

-- by whom a side's stream is judged, and after how many bytes the connection was closed
pub record Aim : Type 0 where
  pub receiver : Option Receiver
  pub cut : Option ℕ

-- These marks have their turns; the newest stands first.
pub record AreReplayed (since : Rows) (p q : Past) (x y : Aim) (marks : List Mark) (a b : Replay) (w : Watch) : Type 0 where
  pub turns : List Turn
  pub are : AreTurnsOf p q x.receiver y.receiver marks turns
  pub a_is : IsReplay p x.receiver x.cut (reach_of A marks) (items_by A turns) a
  pub b_is : IsReplay q y.receiver y.cut (reach_of B marks) (items_by B turns) b
  pub seen : IsSeen since turns w
  pub latest : IsLatest marks w.when

abbrev pub AreReplays : List Mark → Replay → Replay → Watch → Replay → Replay → Watch → Type 0
AreReplays more a b w a' b' w' = (since : Rows) (p q : Past) (x y : Aim) (marks : List Mark)
    → AreReplayed since p q x y marks a b w → AreReplayed since p q x y (more ++ marks) a' b' w'

-- ---- after the opening

pub record IsOpened (terms : Terms) (p q : Past) (cut : Option ℕ) (o : Opened) : Type 0 where
  pub stage : IsStage terms p q o.stage
  pub length : cut_length o.cut ≡ cut
  pub last : IsCutNow (receiver_in o.stage) p.front p.out o.cut

-- A direction isn't in its opening any more. What its sender has announced stays.
pub record IsOpenedBy (d : Direction) (o : Opened) (d' : Direction) : Type 0 where
  pub flow : d'.flow ≡ d.flow
  pub intro : (front : List ℕ) → IsHeardOf front d.intro → IsHeardOf front d'.intro
  pub stage : d'.stage ≡ o.stage
  pub cut : d'.cut ≡ o.cut

-- What is left of a side was judged in a turn, in which nothing counts as known.
pub record IsFinished (since : Rows) (terms : Terms) (p q : Past) (receiver : Option Receiver) (cut : Option ℕ) (side : Side) (before : List Turn) (o : Opened)
    (w w' : Watch) : Type 0 where
  pub turn : Turn
  pub side_is : turn.side ≡ side
  pub known : turn.known ≡ false
  pub deeds : turn.deeds ≡ no_deeds
  pub when : turn.when ≡ w.when
  pub now : w'.when ≡ w.when
  pub is : IsOpened terms p q cut o
  pub by : receiver_in o.stage ≡ receiver
  pub items_are : AreItemsIn o.stage p (items_by side (turn ∷ before))
  pub seen : IsSeen since (turn ∷ before) w'

-- The opening ended. These are the items and the events of both sides, in the turns that the marks make, and the rows of these turns, in order.
pub record HasOpened (marks : List Mark) (p q : Past) (s s' : Stage) (w : Watch) (r r' : Rows) : Type 0 where
  pub heard : IsHeard p q s s' w
  pub turns : List Turn
  pub told : heard.events ≡ told_by turns
  pub items_are : (side : Side) → heard.items side ≡ items_by side turns
  pub rows : List Shown
  pub appends : Appends rows r r'
  pub shown : AreTurnRows r.heading turns rows
  pub opened_by : AreOpenedBy marks p q s s' turns
