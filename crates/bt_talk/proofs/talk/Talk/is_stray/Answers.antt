use Rattle.std.proofs.Common.{Bool, not, sym, ◌∙◌, subst, refl}
use Rattle.bt_flow.specs.Flows.{IsPassedBy}
use Rattle.bt_flow.specs.declared.flow.Given.{Given}
use Rattle.bt_talk.specs.Strays.{IsStrayBy}
use Rattle.bt_talk.specs.Talks.{of_side}
use Rattle.bt_talk.proofs.Talks.{found}
use Rattle.bt_talk.proofs.talk.Talk.is_stray.Goals as goal

pub returns-then-segment : goal.returns-then-segment
returns-then-segment c = λ a b t.
    let d = found c.args.self.now.terms c.args.side a b c.args.self.now.sides c.direction.result.now c.direction.ensures t in
    let p = of_side c.args.side a b in
    let next = c.may_be_next.ensures p.heard p.segs p.out d.flow in
    subst (λ (rst : Bool). IsStrayBy rst c.args.segment.now p.heard (not c.may_be_next.result)) (sym c.if-segment.true)
    (c.may_be_next.result, next, refl)

pub returns-else-segment : goal.returns-else-segment
returns-else-segment c = λ a b t.
    let d = found c.args.self.now.terms c.args.side a b c.args.self.now.sides c.direction.result.now c.direction.ensures t in
    let p = of_side c.args.side a b in
    let passed = subst (λ (g : Given). IsPassedBy p.heard g c.passes.result) c.given_of.ensures (c.passes.ensures p.heard p.segs p.out d.flow) in
    subst (λ (rst : Bool). IsStrayBy rst c.args.segment.now p.heard c.passes.result) (sym c.if-segment.false) passed
