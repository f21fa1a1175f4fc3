use Rattle.std.proofs.Common.{Bool, Some, sym, ap, subst, drop}
use Rattle.bt_talk.specs.declared.stage.Judged.{Judged}
use Rattle.bt_talk.specs.declared.stage.Stage.{Stage}
use Rattle.bt_talk.specs.Receivers.{AreVerdicts, IsReceiver, IsJudgedBy}
use Rattle.bt_talk.specs.Stages.{IsStage, is_opening}
use Rattle.bt_talk.proofs.direction.Direction.verdicts.Goals as goal

pub returns-in-Open : goal.returns-in-Open
returns-in-Open c = λ terms p other d.
    let j = c.deref.result.now in
    let s = subst (λ (k : Judged). IsReceiver terms p other (Some k.receiver) × IsJudgedBy k.receiver.own p k.judge) (sym c.deref.ensures)
    (subst (λ (s : Stage). IsStage terms p other s) c.in-Open.is d.stage) in
    let own = j.receiver.own in
    subst (λ (o : Bool). AreVerdicts o terms p other (Some c.judgement_of.result)) (sym (ap is_opening c.in-Open.is)) (
      j.receiver,
      s.0,
      record {
        start = s.1.start;
        first = s.1.first;
        free = s.1.free;
        bep = s.1.bep;
        told = c.judgement_of.ensures own (drop s.1.start p.out) s.1.free s.1.bep s.1.judged;
      },
    )
