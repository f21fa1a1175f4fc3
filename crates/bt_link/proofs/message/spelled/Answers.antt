use Rattle.std.proofs.Common.{Some, subst}
use Rattle.bt_wire.specs.declared.context.Context.{Context}
use Rattle.bt_wire.specs.declared.context.Order.TheVariants.{Past}
use Rattle.bt_wire.specs.Faults.{IsFault}
use Rattle.bt_wire.specs.Fronts.{IsPartial}
use Rattle.bt_link.proofs.Sayings.{not_refused, not_partial}
use Rattle.bt_link.proofs.message.spelled.Goals as goal

pub returns-in-Refused : goal.returns-in-Refused
returns-in-Refused c =
    let P : Context → Type 0 = λ x. IsFault x Past 0 c.args.bytes.now (Some c.in-Refused.field-0) in
    not_refused c.args.bytes.now c.in-Refused.field-0 c.prefixes.ensures.last (subst P c.lenient_context.ensures c.in-Refused.ensures)

pub returns-in-Partial : goal.returns-in-Partial
returns-in-Partial c =
    let P : Context → Type 0 = λ x. IsPartial x Past 0 c.args.bytes.now in
    not_partial c.args.bytes.now (subst P c.lenient_context.ensures c.in-Partial.ensures)
