use Rattle.std.proofs.Common.{arith}
use Rattle.bt_ext.proofs.InPlace.{with_set, with_none}
use Rattle.bt_ext.proofs.table.set_id.Goals as goal

pub returns-then-place-len : goal.returns-then-place-len
returns-then-place-len g c =
    with_set c.args.place c.args.id c.args.entries.now.items c.index_mut.result.now (omega (arith, c.if-place-len.true, c.len.ensures, c.args.entries.now.ok.0))
    c.index_mut.ensures.value

pub returns-else-place-len : goal.returns-else-place-len
returns-else-place-len g c =
    with_none c.args.place c.args.id c.args.entries.now.items (omega (arith, c.if-place-len.false, c.len.ensures, c.args.entries.now.ok.0))
