use Rattle.std.proofs.Common.{Bool, not, sym, subst, refl}
use Rattle.bt_talk.specs.Strays.{IsStrayResetBy}
use Rattle.bt_talk.specs.Talks.{of_side}
use Rattle.bt_talk.proofs.Talks.{found}
use Rattle.bt_talk.proofs.talk.Talk.is_stray_reset.Goals as goal

pub returns-then-segment : goal.returns-then-segment
returns-then-segment c = λ a b t.
    let d = found c.args.self.now.terms c.args.side a b c.args.self.now.sides c.direction.result.now c.direction.ensures t in
    let p = of_side c.args.side a b in
    let next = c.may_be_next.ensures p.heard p.segs p.out d.flow in
    subst (λ (rst : Bool). IsStrayResetBy rst p.heard c.args.segment.now.sequence (not c.may_be_next.result)) (sym c.if-segment.true)
    (c.may_be_next.result, next, refl)
