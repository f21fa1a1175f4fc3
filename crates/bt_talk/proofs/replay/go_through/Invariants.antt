-- The marks so far have their turns.
use Rattle.std.specs.Prelude.{◌++◌, List, reverse, take}
use Rattle.bt_talk.specs.declared.replay.Mark.{Mark}
use Rattle.bt_talk.specs.declared.rows.Rows.{Rows}
use Rattle.bt_talk.specs.Pasts.{Past}
use Rattle.bt_talk.specs.Replays.{Aim, AreReplayed}
use Rattle.bt_talk.proofs.replay.go_through.Given as goal

abbrev pub invariant-loop-mark : goal.invariant-loop-mark
invariant-loop-mark l = record {
  are : (since : Rows) (p q : Past) (x y : Aim) (marks : List Mark) → AreReplayed since p q x y marks l.initial.a l.initial.b l.initial.watch
      → AreReplayed since p q x y (reverse (take l.mark-index l.marks) ++ marks) l.a l.b l.watch;
}
