use Rattle.std.proofs.Common.{ℕ, drop, None, refl, sym, subst}
use Rattle.bt_ext.specs.declared.ids.Rules.TheVariants.{Free}
use Rattle.bt_intro.specs.Hellos.{IsFirstHello}
use Rattle.bt_judge.specs.Judges.{under}
use Rattle.bt_judge.specs.Readings.{IsStanding}
use Rattle.bt_talk.specs.declared.stage.Judged.{Judged}
use Rattle.bt_talk.specs.declared.stage.Stage.{Stage}
use Rattle.bt_talk.specs.Receivers.{IsJudgedBy}
use Rattle.bt_talk.specs.Stages.{IsStage, IsRefusedIn}
use Rattle.bt_talk.proofs.direction.Direction.refusal.Goals as goal

pub returns-in-Opening : goal.returns-in-Opening
returns-in-Opening c = λ terms p other d. subst (λ (s : Stage). IsRefusedIn s p None) (sym c.in-Opening.is) refl

pub returns-in-Open : goal.returns-in-Open
returns-in-Open c = λ terms p other d.
    let s = subst (λ (k : Judged). IsJudgedBy k.receiver.own p k.judge) (sym c.deref.ensures)
    (subst (λ (s : Stage). IsStage terms p other s) c.in-Open.is d.stage).1 in
    subst (λ (s : Stage). IsRefusedIn s p c.refusal.result) (sym c.in-Open.is)
    (subst (λ (k : Judged). (start : ℕ) × IsFirstHello p.front start × IsStanding (under Free k.receiver.own) (drop start p.out) c.refusal.result)
    c.deref.ensures (s.start, s.first, c.refusal.ensures _ _ s.free s.bep s.judged))

pub returns-in-Stranger : goal.returns-in-Stranger
returns-in-Stranger c = λ terms p other d. subst (λ (s : Stage). IsRefusedIn s p None) (sym c.in-Stranger.is) refl
