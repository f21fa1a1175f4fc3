use Rattle.std.proofs.Common.{◌<◌, length, refl, ap, arith}
use Rattle.bt_end.specs.Halves.{high_water}
use Rattle.bt_end.proofs.Turns.{begun, begun_sturdy}
use Rattle.bt_end.proofs.end.End.begin.Goals as goal

pub invariant_of-self-in-Some : goal.invariant_of-self-in-Some
invariant_of-self-in-Some g c =
    let old = c.self.inside in
    let few : length old.reactor.outbox.bytes < high_water = omega (arith, c.if-bytes-ge-HIGH_WATER.false, ap length c.bytes.ensures) in
    begun_sturdy {old = old} {mid = record { feed = old.feed; reactor = c.anew.new.self }} c.args.size c.in-Some.assembly
    (record { feed = refl; end = c.anew.ensures.end; bytes = c.anew.ensures.bytes }) c.self.invariant few c.in-Some.is c.in_ok-assembly.ensures.ok c.restart.ensures

pub returns-in-Some : goal.returns-in-Some
returns-in-Some g c =
    let old = c.self.inside in
    let few : length old.reactor.outbox.bytes < high_water = omega (arith, c.if-bytes-ge-HIGH_WATER.false, ap length c.bytes.ensures) in
    begun {old = old} {mid = record { feed = old.feed; reactor = c.anew.new.self }} c.args.size c.in-Some.assembly c.self.view_is
    (record { feed = refl; end = c.anew.ensures.end; bytes = c.anew.ensures.bytes }) few c.in-Some.is c.in_ok-assembly.ensures.ok c.restart.ensures
