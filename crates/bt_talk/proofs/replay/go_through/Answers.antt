use Rattle.std.proofs.Common.{◌++◌, List, reverse, sym, subst, arith}
use Rattle.std.proofs.lemmas.List.{take_all}
use Rattle.bt_talk.specs.declared.replay.Mark.{Mark}
use Rattle.bt_talk.specs.Replays.{AreReplayed}
use Rattle.bt_talk.proofs.Marks.{next_mark}
use Rattle.bt_talk.proofs.replay.go_through.Goals as goal

pub loop-mark-init : goal.loop-mark-init
loop-mark-init c = record { are = λ since p q x y marks i. i }

pub loop-mark-preserved : goal.loop-mark-preserved
loop-mark-preserved c = record {
  are = λ since p q x y marks i.
      subst (λ (l : List Mark). AreReplayed since p q x y l c.step.new.a c.step.new.b c.step.new.watch)
      (sym (next_mark c.args.marks.now marks c.loop-mark.mark-index _ c.loop-mark-test.true))
      (c.in_ok-step.ensures since p q x y _ (c.loop-mark.invariant.are since p q x y marks i));
}

pub returns : goal.returns
returns c = λ since p q x y marks i.
    subst (λ (l : List Mark). AreReplayed since p q x y (reverse l ++ marks) c.loop-mark.a c.loop-mark.b c.loop-mark.watch)
    (take_all c.loop-mark.mark-index c.args.marks.now (omega (arith, c.loop-mark-test.false))) (c.loop-mark.invariant.are since p q x y marks i)
