use Rattle.std.proofs.Common.{ℕ, drop, false, refl, sym, subst}
use Rattle.bt_ext.specs.declared.ids.Rules.TheVariants.{Free}
use Rattle.bt_intro.specs.Hellos.{IsFirstHello}
use Rattle.bt_judge.specs.Judges.{under}
use Rattle.bt_judge.specs.Readings.{IsStanding}
use Rattle.bt_talk.specs.declared.stage.Judged.{Judged}
use Rattle.bt_talk.specs.declared.stage.Stage.{Stage}
use Rattle.bt_talk.specs.Receivers.{IsJudgedBy}
use Rattle.bt_talk.specs.Stages.{IsKnown, IsStage}
use Rattle.bt_talk.proofs.Saying.{known_whole, known_not}
use Rattle.bt_talk.proofs.direction.Direction.is_known.Goals as goal

pub returns-in-Opening : goal.returns-in-Opening
returns-in-Opening c = λ terms p other d. subst (λ (s : Stage). IsKnown s p c.args.self.now.flow false) (sym c.in-Opening.is) refl

pub returns-then-is_known : goal.returns-then-is_known
returns-then-is_known c = λ terms p other d.
    let s = subst (λ (k : Judged). IsJudgedBy k.receiver.own p k.judge) (sym c.deref.ensures)
    (subst (λ (s : Stage). IsStage terms p other s) c.in-Open.is d.stage).1 in
    let k = c.is_known.ensures _ _ s.free s.bep s.judged in
    let r = subst (λ (j : Judged). (start : ℕ) × IsFirstHello p.front start × IsStanding (under Free j.receiver.own) (drop start p.out) k.0)
    c.deref.ensures (s.start, s.first, k.1) in
    known_whole c.args.self.now.stage p c.args.self.now.flow _ k.0 c.is_known.result c.has_hole.result c.in-Open.is r k.2 c.if-is_known.true
    (c.has_hole.ensures p.heard p.segs p.out d.flow)

pub returns-else-is_known : goal.returns-else-is_known
returns-else-is_known c = λ terms p other d.
    let s = subst (λ (k : Judged). IsJudgedBy k.receiver.own p k.judge) (sym c.deref.ensures)
    (subst (λ (s : Stage). IsStage terms p other s) c.in-Open.is d.stage).1 in
    let k = c.is_known.ensures _ _ s.free s.bep s.judged in
    let r = subst (λ (j : Judged). (start : ℕ) × IsFirstHello p.front start × IsStanding (under Free j.receiver.own) (drop start p.out) k.0)
    c.deref.ensures (s.start, s.first, k.1) in
    known_not c.args.self.now.stage p c.args.self.now.flow _ k.0 c.is_known.result c.in-Open.is r k.2 c.if-is_known.false

pub returns-in-Stranger : goal.returns-in-Stranger
returns-in-Stranger c = λ terms p other d. subst (λ (s : Stage). IsKnown s p c.args.self.now.flow false) (sym c.in-Stranger.is) refl
