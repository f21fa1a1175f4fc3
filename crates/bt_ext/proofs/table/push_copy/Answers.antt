use Rattle.bt_ext.proofs.InPlace.{copied}
use Rattle.bt_ext.proofs.table.push_copy.Goals as goal

pub returns-clause-entries : goal.returns-clause-entries
returns-clause-entries g c = copied c.push_entry.result c.args.copies.now.items c.push_entry.new.entries.items c.args.name.now c.args.id c.push_entry.ensures.ok
