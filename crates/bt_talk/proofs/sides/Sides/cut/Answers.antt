use Rattle.std.proofs.Common.{◌∙◌, length, ap, subst, Option}
use Rattle.bt_rows.specs.declared.said.Said.{Said}
use Rattle.bt_talk.specs.Watching.{IsLast}
use Rattle.bt_remarks.specs.declared.events.Side.TheVariants.{A, B}
use Rattle.bt_talk.specs.declared.direction.Direction.{Direction}
use Rattle.bt_talk.specs.Stages.{is_opening}
use Rattle.bt_talk.specs.Talks.{of_side}
use Rattle.bt_talk.proofs.Talks.{cut_noted, cut_kept, flows_same, closed_both}
use Rattle.bt_talk.proofs.sides.Sides.cut.Goals as goal
use Rattle.std.proofs.Common.{refl, sym}

pub returns-then-closes_first-clause-kept : goal.returns-then-closes_first-clause-kept
returns-then-closes_first-clause-kept c = λ terms a b t.
    let self = c.args.self.now in
    closed_both terms a b self _ refl (ap (λ (d : Direction). d.stage) c.close.ensures.rest)
    (ap (λ (d : Direction). d.stage) c.close-then-closes_first.ensures.rest)
    (c.close.ensures.cut terms a b (t.said.items A) t.a_is t.said.a_items
    (subst (λ (o : Option Said). IsLast (t.said.items A) o) (sym c.last.ensures) (t.said.watched.notes A).last))
    (c.close-then-closes_first.ensures.cut terms b a (t.said.items B) t.b_is t.said.b_items
    (subst (λ (o : Option Said). IsLast (t.said.items B) o) (sym c.last-then-closes_first.ensures) (t.said.watched.notes B).last)) t

pub returns-then-closes_first-clause-cuts : goal.returns-then-closes_first-clause-cuts
returns-then-closes_first-clause-cuts c = λ terms a b side t.
    let self = c.args.self.now in
    cut_noted side a b self _ c.args.flags c.args.closing.now.closed (sym c.closes_first.ensures ∙ c.if-closes_first.true) (c.close.ensures.upto terms a b t.a_is)
    (c.close-then-closes_first.ensures.upto terms b a t.b_is)

pub returns-then-closes_first-clause-flows : goal.returns-then-closes_first-clause-flows
returns-then-closes_first-clause-flows c = λ side.
    flows_same side c.args.self.now _ (ap (λ (d : Direction). d.flow) c.close.ensures.rest)
    (ap (λ (d : Direction). d.flow) c.close-then-closes_first.ensures.rest)

pub returns-then-closes_first-clause-opening : goal.returns-then-closes_first-clause-opening
returns-then-closes_first-clause-opening c = ap (λ (d : Direction). is_opening d.stage) c.close.ensures.rest

pub returns-then-closes_first-clause-stages : goal.returns-then-closes_first-clause-stages
returns-then-closes_first-clause-stages c =
    (ap (λ (d : Direction). d.stage) c.close.ensures.rest, ap (λ (d : Direction). d.stage) c.close-then-closes_first.ensures.rest)

pub returns-else-closes_first-clause-cuts : goal.returns-else-closes_first-clause-cuts
returns-else-closes_first-clause-cuts c = λ terms a b side t.
    cut_kept side (length (of_side side a b).out) c.args.self.now c.args.flags c.args.closing.now.closed (sym c.closes_first.ensures ∙ c.if-closes_first.false)
