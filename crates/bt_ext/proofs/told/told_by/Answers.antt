use Rattle.std.proofs.Common.{◌∙◌}
use Rattle.bt_ext.specs.Holding.{entries_of, names_of}
use Rattle.bt_ext.proofs.Telling.{told_step}
use Rattle.bt_ext.proofs.told.told_by.Goals as goal

pub loop-name-preserved : goal.loop-name-preserved
loop-name-preserved g c =
    c.loop-name.invariant ∙ told_step (entries_of c.loop-name.entries.items) (entries_of c.tell.new.entries.items) (names_of c.loop-name.names)
    (names_of c.tell.new.names) c.loop-name.name-iterator c.next.new.self (c.in-Some.name, c.in-Some.value) c.in-Some.ensures.steps
    c.in_ok-tell.ensures.names (rw c.byte_of.ensures at c.in_ok-tell.ensures.entries)
