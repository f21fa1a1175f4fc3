use Rattle.std.proofs.Common.{◌≡◌, ◌-◌, ◌∙◌, true, ap, arith}
use Rattle.std.proofs.lemmas.Grind.{common_steps}
use Rattle.bt_order.specs.Streams.{packet_at, payloads}
use Rattle.bt_order.specs.Held.{held_at}
use Rattle.bt_order.specs.Directions.{is_open}
use Rattle.bt_order.proofs.Taking.{open_state}
use Rattle.bt_order.proofs.laws.fresh_is_nothing.Goals as goal

pub returns : goal.returns
returns c d ps out h fresh =
    let opened : is_open d.course ≡ true = grind (arith, common_steps) in
    let first : d.next ≡ 65536 = grind (arith, common_steps) in
    let none : d.next - 65536 ≡ 0 = omega (arith, first) in
    let s = open_state (packet_at ps) out d.course d.next (held_at d.held) opened h.state in
    s.0.is ∙ ap (λ n. payloads (packet_at ps) n 65536) none
