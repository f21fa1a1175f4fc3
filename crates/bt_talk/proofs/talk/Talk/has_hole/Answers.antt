use Rattle.std.proofs.Common.{subst}
use Rattle.bt_flow.specs.Flows.{HasHole}
use Rattle.bt_talk.specs.declared.direction.Direction.{Direction}
use Rattle.bt_talk.specs.Talks.{of_side}
use Rattle.bt_talk.proofs.Talks.{found}
use Rattle.bt_talk.proofs.talk.Talk.has_hole.Goals as goal

pub returns : goal.returns
returns c = λ a b t.
    let d = found c.args.self.now.terms c.args.side a b c.args.self.now.sides c.direction.result.now c.direction.ensures t in
    let p = of_side c.args.side a b in
    subst (λ (x : Direction). HasHole p.heard p.out x.flow.stream c.has_hole.result) c.direction.ensures (c.has_hole.ensures p.heard p.segs p.out d.flow)
