use Rattle.bt_talk.specs.Talks.{of_side}
use Rattle.bt_talk.proofs.Talks.{found}
use Rattle.bt_talk.proofs.talk.Talk.announced.Goals as goal

pub returns : goal.returns
returns c = λ a b t.
    let d = found c.args.self.now.terms c.args.side a b c.args.self.now.sides c.direction.result.now c.direction.ensures t in
    c.announced.ensures (of_side c.args.side a b).front d.intro
