-- How far a stream is judged by both rule sets of one receiver.
use Rattle.std.specs.Prelude.{◌≡◌, ℕ, List, Option, Some, None, IsSome, Result, Ok, Err}
use Rattle.bt_ext.specs.declared.ids.Rules.{Rules}
use Rattle.bt_ext.specs.declared.ids.Rules.TheVariants.{Free, Bep}
use Rattle.bt_wire.specs.declared.context.Own.{Own}
use Rattle.bt_wire.specs.declared.item.Item.{Item}
use Rattle.bt_wire.specs.declared.item.Refusal.{Refusal}
use Rattle.bt_feed.specs.Pumps.{Took, IsMissed}
use Rattle.bt_io.specs.Counts.{Grew}
use Rattle.bt_feed.specs.declared.sink.SinkFault.{SinkFault}
use Rattle.bt_judge.specs.Readings.{ReadingState, IsJudged, IsTold, IsUnread}
use Rattle.bt_judge.specs.declared.fault.JudgeFault.{JudgeFault}
use Rattle.bt_judge.specs.declared.fault.JudgeFault.TheVariants.{Sink, Memory}
use Rattle.bt_judge.specs.declared.judge.Judge.{Judge}
use Rattle.bt_judge.specs.declared.judge.Unreads.{Unreads}
use Rattle.bt_judge.specs.declared.judge.Verdicts.{Verdicts}

-- the receiver under these rules
abbrev pub under : Rules → Own → Own
under rules own = record own { rules = rules }

-- The lenient rules read b as the strict ones do, which refuse nothing; or the strict ones refuse, and this is how far b is read by the others.
abbrev pub IsFree : Own → List ℕ → (xs ys : List (ℕ × Item)) → ReadingState → Option ReadingState → Type 0
IsFree own b xs ys bep None = (bep.refused ≡ None) × (xs ≡ ys)
IsFree own b xs ys bep (Some free) = IsSome bep.refused × IsJudged (under Free own) b xs free

-- b was taken: these are its items under the lenient rules, and those under the strict ones
pub record AreJudged (own : Own) (b : List ℕ) (xs ys : List (ℕ × Item)) (j : Judge) : Type 0 where
  pub bep : IsJudged (under Bep own) b ys j.bep
  pub free : IsFree own b xs ys j.bep j.free

-- the verdicts of b, if the stream ends there
pub record AreTold (own : Own) (b : List ℕ) (xs ys : List (ℕ × Item)) (v : Verdicts) : Type 0 where
  pub free : IsTold (under Free own) b xs v.free
  pub bep : IsTold (under Bep own) b ys v.bep

-- what follows the items of b under both rule sets
pub record AreUnread (own : Own) (b : List ℕ) (xs ys : List (ℕ × Item)) (u : Unreads) : Type 0 where
  pub refused : Option Refusal
  pub free : IsUnread (under Free own) b xs refused u.free.start u.free.bytes.now
  pub strict : Option Refusal
  pub bep : IsUnread (under Bep own) b ys strict u.bep.start u.bep.bytes.now

-- the sink was given these items, and didn't take the last one; or it took them, and memory ran out
abbrev pub IsStopped : {S : Type 0} → (S → ℕ × Item → S → Type 0) → (S → ℕ × Item → SinkFault → S → Type 0) → JudgeFault → S → List (ℕ × Item) → S → Type 0
IsStopped takes misses (Sink e) old given new = IsMissed takes misses e old given new
IsStopped takes misses Memory old given new = Took takes old given new

-- the sink failed once more if it didn't take an item, and else not
abbrev pub HasFailed : {T : Type 0} → Result T JudgeFault → ℕ → ℕ → Type 0
HasFailed (Ok x) before after = after ≡ before
HasFailed (Err (Sink e)) before after = Grew before after
HasFailed (Err Memory) before after = after ≡ before
