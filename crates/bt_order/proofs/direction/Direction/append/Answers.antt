use Rattle.std.proofs.Common.{◌≡◌, false, arith}
use Rattle.std.proofs.lemmas.Grind.{common_steps}
use Rattle.bt_order.specs.Held.{held_at, packet_with}
use Rattle.bt_order.specs.Streams.{is_last}
use Rattle.bt_order.proofs.Passing.{passed_on}
use Rattle.bt_order.proofs.direction.Direction.append.Goals as goal

pub returns-else-payload-2-clause-passed : goal.returns-else-payload-2-clause-passed
returns-else-payload-2-clause-passed c at before reached is held =
    let q = packet_with c.args.self.now.next c.args.payload.now in
    let goes_on : is_last q ≡ false = grind (arith, common_steps) in
    passed_on at before c.args.self.now.next (held_at c.args.self.now.held) q reached is goes_on held
