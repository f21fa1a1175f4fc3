use Rattle.std.proofs.Common.{◌≡◌, Bool, List, ℕ, Some, ap, sym, ◌∙◌, arith}
use Rattle.bt_order.specs.declared.held.Held.{Held}
use Rattle.bt_order.specs.declared.held.Payload.{Payload}
use Rattle.bt_order.specs.Streams.{Packet}
use Rattle.bt_order.specs.Held.{packet_with, held_at}
use Rattle.bt_order.proofs.Taking.{passes_none, passes_more}
use Rattle.bt_order.proofs.direction.Direction.drain.Goals as goal

abbrev with_bytes : ℕ → Bool → ℕ → List ℕ → Packet
with_bytes i fin size bytes = record { index = i; is_fin = fin; bytes = bytes; size = size }

pub loop-self-init : goal.loop-self-init
loop-self-init c = record { passes = passes_none _ _; room = c.requires }

pub loop-self-preserved : goal.loop-self-preserved
loop-self-preserved c =
    let d = c.loop-self.self in
    let part = c.in-Some.part in
    let e = c.in-Some.ensures in
    let a = c.append.ensures in
    let payload : Payload = record { is_fin = part.is_fin; bytes = c.deref.result; size = part.size } in
    let is : held_at d.held d.next ≡ Some (packet_with d.next payload)
    = sym e.is ∙ ap (λ l. Some (with_bytes d.next part.is_fin part.size l)) (sym c.deref.ensures.value) in
    record {
      passes = passes_more c.args.self.now c.args.out.now.items d c.loop-self.out.items c.remove.new.self payload c.append.new.self c.append.new.out.items
          c.loop-self.invariant.passes (sym c.is_open.ensures ∙ c.loop-self-test.true) is e.gone e.rest (omega (arith, e.counted))
          a.out a.held a.start.first a.start.base a.found a.place a.passed;
      room =
          let same = ap (λ (h : Held). h.counted) c.append.ensures.held in
          omega (arith, same, e.counted, c.deref.ensures.len, c.append.ensures.len, c.append.ensures.capacity, c.loop-self.invariant.room);
    }
