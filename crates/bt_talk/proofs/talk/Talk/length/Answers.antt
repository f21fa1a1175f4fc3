use Rattle.bt_talk.specs.Talks.{of_side}
use Rattle.bt_talk.proofs.Talks.{found}
use Rattle.bt_talk.proofs.talk.Talk.length.Goals as goal

pub returns : goal.returns
returns c = λ a b t.
    let d = found c.args.self.now.terms c.args.side a b c.args.self.now.sides c.direction.result.now c.direction.ensures t in
    let p = of_side c.args.side a b in c.next.ensures p.heard p.segs p.out d.flow
