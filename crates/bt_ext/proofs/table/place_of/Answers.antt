use Rattle.std.proofs.Common.{◌≡◌, false, arith, add-one}
use Rattle.std.specs.Str.{bytes_eq}
use Rattle.std.proofs.lemmas.Grind.{common_steps}
use Rattle.bt_ext.proofs.Entries.{none_more}
use Rattle.bt_ext.proofs.table.place_of.Goals as goal

pub loop-i-preserved : goal.loop-i-preserved
loop-i-preserved g c =
    let e = c.index-entries-i.result in
    let other : bytes_eq e.0 c.args.name.now ≡ false = grind (arith, common_steps) in
    rw add-one (none_more c.args.name.now c.args.entries.now c.loop-i.i e (omega arith) c.index-entries-i.is other c.loop-i.invariant)
