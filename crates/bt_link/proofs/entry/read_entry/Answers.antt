use Rattle.std.proofs.Common.{Option, subst, sym}
use Rattle.bt_wire.specs.Messages.{Message}
use Rattle.bt_link.specs.Entries.{IsMessageReading}
use Rattle.bt_link.proofs.Sayings.{nothing_said}
use Rattle.bt_link.proofs.entry.read_entry.Goals as goal

pub returns-in-None-2 : goal.returns-in-None-2
returns-in-None-2 c =
    let P : Option Message → Type 0 = λ r. IsMessageReading c.in-Some.words.now r in
    nothing_said c.args.text.now c.in-Some.words.now c.in-Some.side (sym c.in-Some.ensures.value) (subst P c.in-None-2.is c.in_ok-message-in-Some.ensures)
