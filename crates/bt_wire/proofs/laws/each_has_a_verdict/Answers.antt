use Rattle.std.proofs.Common.{ℕ, List, drop, subst}
use Rattle.bt_wire.specs.declared.context.Context.{Context}
use Rattle.bt_wire.specs.declared.context.Order.TheVariants.{Fresh}
use Rattle.bt_wire.specs.Streams.{IsOutcome}
use Rattle.bt_wire.proofs.WalkLaws.{refused_opening, partial_opening, opening_more}
use Rattle.bt_wire.proofs.laws.each_has_a_verdict.Goals as goal

pub returns-in-Refused : goal.returns-in-Refused
returns-in-Refused c = (_, refused_opening _ _ _ c.in-Refused.ensures)

pub returns-in-Partial : goal.returns-in-Partial
returns-in-Partial c = (_, partial_opening _ _ c.in-Partial.ensures.0 c.in-Partial.ensures.1)

pub returns-in-Whole : goal.returns-in-Whole
returns-in-Whole c =
    let v = c.walk.ensures.0 in
    let P : Context → Type 0 = λ k. IsOutcome k Fresh 68 1 (drop 68 c.args.stream.now) v in
    let Q : List ℕ → Type 0 = λ b. IsOutcome c.negotiate.result Fresh 68 1 b v in
    (_, opening_more _ _ _ v c.in-Whole.ensures.0 c.in-Whole.ensures.1 (subst P c.negotiate.ensures (subst Q c.suffix.ensures c.walk.ensures.1)))
