use Rattle.std.proofs.Common.{arith, refl}
use Rattle.bt_bencode.proofs.Reading.{ends}
use Rattle.bt_bencode.proofs.Stacks.{none_open}
use Rattle.bt_bencode.specs.declared.scan.Expect.TheVariants as expect
use Rattle.bt_bencode.proofs.scan.scan_on.Goals as goal

pub returns-then-depth-eq0-clause-ok : goal.returns-then-depth-eq0-clause-ok
returns-then-depth-eq0-clause-ok c = ends c.args.payload.now c.items_end-end.result.0 expect.Item c.items_end-end.result.1
    (omega (arith, c.items_end-end.ensures.within)) (refl, none_open c.items_end-end.result.1 (omega (arith, c.depth.ensures.value)))
    c.items_end-end.ensures.read
