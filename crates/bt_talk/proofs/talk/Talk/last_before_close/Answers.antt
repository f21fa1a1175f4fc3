use Rattle.std.proofs.Common.{Bool, Option, ℕ, subst, ap}
use Rattle.bt_remarks.specs.Said.{other}
use Rattle.bt_talk.specs.declared.direction.Direction.{Direction}
use Rattle.bt_talk.specs.Cuts.{IsLastBefore, cut_length}
use Rattle.bt_talk.specs.Talks.{of_side, is_in_opening}
use Rattle.bt_talk.proofs.Talks.{found, opening_of}
use Rattle.bt_talk.proofs.talk.Talk.last_before_close.Goals as goal

pub returns : goal.returns
returns c = λ a b t.
    let self = c.args.self.now in
    let p = of_side c.args.side a b in
    let q = of_side (other c.args.side) a b in
    let d = found self.terms c.args.side a b self.sides c.direction.result.now c.direction.ensures t in
    let opening = opening_of self.terms c.args.side a b self.sides c.direction.result.now c.direction.ensures t in
    let cut = ap (λ (k : Direction). cut_length k.cut) c.direction.ensures in
    subst (λ (n : Option ℕ). IsLastBefore (is_in_opening self) self.terms p q n c.last_before.result) cut
    (subst (λ (o : Bool). IsLastBefore o self.terms p q (cut_length c.direction.result.now.cut) c.last_before.result) opening
    (c.last_before.ensures self.terms p q d))
