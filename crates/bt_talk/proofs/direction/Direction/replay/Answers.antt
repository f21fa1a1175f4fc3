use Rattle.std.proofs.Common.{◌∙◌, subst}
use Rattle.bt_talk.specs.declared.stage.Stage.{Stage}
use Rattle.bt_talk.specs.Stages.{IsStage}
use Rattle.bt_talk.proofs.direction.Direction.replay.Goals as goal

pub returns-in_ok-replay-in-Opening : goal.returns-in_ok-replay-in-Opening
returns-in_ok-replay-in-Opening c = λ terms p other o d r.
    let s = subst (λ (s : Stage). IsStage terms p other s) c.in-Opening.is d.stage in
    c.in_ok-replay-in-Opening.ensures terms p other (c.deref.ensures.value ∙ s.0) s.1 (c.start.ensures p.front d.intro) r
