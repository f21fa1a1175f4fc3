use Rattle.std.proofs.Common.{Bool, subst}
use Rattle.bt_remarks.specs.Said.{other}
use Rattle.bt_talk.specs.Receivers.{AreVerdicts}
use Rattle.bt_talk.specs.Talks.{of_side}
use Rattle.bt_talk.proofs.Talks.{found, opening_of}
use Rattle.bt_talk.proofs.talk.Talk.verdicts.Goals as goal

pub returns : goal.returns
returns c = λ a b t.
    let self = c.args.self.now in
    let p = of_side c.args.side a b in
    let q = of_side (other c.args.side) a b in
    let d = found self.terms c.args.side a b self.sides c.direction.result.now c.direction.ensures t in
    subst (λ (o : Bool). AreVerdicts o self.terms p q c.verdicts.result) (opening_of self.terms c.args.side a b self.sides c.direction.result.now c.direction.ensures t)
    (c.verdicts.ensures self.terms p q d)
