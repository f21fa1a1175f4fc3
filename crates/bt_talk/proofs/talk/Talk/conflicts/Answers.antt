use Rattle.std.proofs.Common.{◌∙◌, ap}
use Rattle.bt_flow.specs.Flows.{conflicts_in}
use Rattle.bt_talk.specs.declared.direction.Direction.{Direction}
use Rattle.bt_talk.proofs.talk.Talk.conflicts.Goals as goal

pub returns : goal.returns
returns c = c.conflicts.ensures ∙ ap (λ (d : Direction). conflicts_in d.flow.stream) c.direction.ensures
