use Rattle.std.proofs.Common.{◌≡◌, subst}
use Rattle.bt_flow.specs.Flows.{high_in}
use Rattle.bt_talk.specs.declared.direction.Direction.{Direction}
use Rattle.bt_talk.specs.Talks.{of_side}
use Rattle.bt_talk.proofs.Talks.{found}
use Rattle.bt_talk.proofs.talk.Talk.high.Goals as goal

pub returns : goal.returns
returns c = λ a b t.
    let d = found c.args.self.now.terms c.args.side a b c.args.self.now.sides c.direction.result.now c.direction.ensures t in
    let p = of_side c.args.side a b in
    subst (λ (x : Direction). c.high.result ≡ high_in p.heard x.flow.stream) c.direction.ensures (c.high.ensures p.heard p.segs p.out d.flow)
