use Rattle.bt_ext.proofs.Entries.{table-after}
use Rattle.bt_ext.proofs.table.Table.enter.Goals as goal

pub invariant_of-self : goal.invariant_of-self
invariant_of-self g c = table-after c.args.name.now c.args.id c.self.inside.entries.items c.enter.new.entries.items c.enter.result c.self.invariant
    c.enter.ensures.ok c.enter.ensures.memory
