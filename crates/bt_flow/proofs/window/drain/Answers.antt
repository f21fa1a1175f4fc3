use Rattle.std.proofs.Common.{◌≡◌, [], arith, ◌++◌, ◌≤◌}
use Rattle.bt_tcp.specs.Rings.{ahead}
use Rattle.bt_tcp.proofs.RingProofs.{ring-none}
use Rattle.bt_tcp.proofs.Taken.{taken_stream}
use Rattle.std.proofs.lemmas.Grind.{common_steps}
use Rattle.bt_flow.proofs.Windows.{hands_none, hands_more, hands_out}
use Rattle.bt_flow.proofs.window.drain.Goals as goal

pub loop-ring-init : goal.loop-ring-init
loop-ring-init c = record { sound = c.requires; some = hands_none _ _ _ }

pub loop-ring-preserved : goal.loop-ring-preserved
loop-ring-preserved c = record {
  sound = c.ready-part.ensures.sound;
  some = hands_more _ _ _ _ _ _ _ _ _ c.ready-part.result.now c.loop-ring.invariant.some c.ready-part.ensures.ready.next_is
      c.ready-part.ensures.taken c.in_ok-extend_from_slice.ensures.items;
}

pub returns-then-is_empty-2-clause-drained : goal.returns-then-is_empty-2-clause-drained
returns-then-is_empty-2-clause-drained c =
    let e : c.ready-part.result.now ≡ [] = grind (arith, common_steps) in
    hands_out _ _ _ _ _ _ _ _ c.ready-part.result.now c.loop-ring.invariant.some c.ready-part.ensures.ready.next_is c.ready-part.ensures.taken
    (c.ready-part.ensures.stream e) e

pub returns-then-is_empty-clause-drained : goal.returns-then-is_empty-clause-drained
returns-then-is_empty-clause-drained c =
    let ring = c.loop-ring.ring in
    let l : ring.end ≤ ring.next = grind (arith, common_steps) in
    let some = c.loop-ring.invariant.some in
    record {
      some = some;
      stream = λ segs base out h. taken_stream segs base (out ++ some.more) ring.next (ahead ring c.loop-ring.known c.args.memory.now)
          (ring-none c.loop-ring.known c.args.memory.now ring.head 0 (c.loop-ring.invariant.sound.over 0 (omega arith))) (some.taken segs base out h);
    }
