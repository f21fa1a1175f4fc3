use Rattle.std.proofs.Common.{◌≡◌, ◌-◌, length, refl, ap, ◌∙◌, arith}
use Rattle.bt_wire.specs.Messages.{message_of}
use Rattle.bt_wire.specs.Faults.{said_id, said_length, allows, size_of}
use Rattle.bt_wire.proofs.HeaderLaws.{IsWindow-from_header}
use Rattle.bt_wire.proofs.WindowLaws.{sized}
use Rattle.bt_c.specs.Steps.{GoesOver}
use Rattle.bt_c.proofs.ByteLaws.{by_bytes}
use Rattle.bt_c.proofs.reader.go_over_bytes.Goals as goal

pub show_bytes-requires-clause-sized : goal.show_bytes-requires-clause-sized
show_bytes-requires-clause-sized c =
    let window = IsWindow-from_header _ _ _ c.requires.window in
    let size : length c.args.window.now - 4 ≡ said_length c.args.window.now = omega (arith, window.exact) in
    (c.args.context.now, ap (allows (size_of c.args.context.now (said_id c.args.window.now))) size ∙ sized _ _ _ window c.requires.long)

pub returns-in-Err-clause-over : goal.returns-in-Err-clause-over
returns-in-Err-clause-over c = GoesOver.refused c.in-Err.fault c.in-Err.ensures.err c.refused.ensures refl

pub returns-in-Ok-clause-over : goal.returns-in-Ok-clause-over
returns-in-Ok-clause-over c =
    let msg = message_of c.in-Ok._view in
    let is = by_bytes c.args.context.now c.args.order c.show_bytes.new.item c.args.window.now msg c.in-Ok.ensures.ok c.requires.long c.requires.plain in
    GoesOver.item msg c.in-Ok.ensures.ok c.show_bytes.ensures.size (c.show_bytes.ensures.id ∙ is.id) c.show_bytes.ensures.start
    (is.fields c.show_bytes.ensures.fields) is.extended
    (c.past_of-reader.ensures ∙ c.next_by_id.ensures ∙ is.order) refl
