use Rattle.std.proofs.Common.{Option, is_some, arith}
use Rattle.bt_fetch.specs.declared.dial.Dial.{Dial}
use Rattle.bt_fetch.proofs.Counts.{free_room}
use Rattle.bt_fetch.proofs.dialling.dial_for.Goals as goal

pub take_turn-requires-clause-room : goal.take_turn-requires-clause-room
take_turn-requires-clause-room g c = λ h.
    let i = c.loop-at.invariant in
    let r = free_room {X = Option (Dial g.row.D-Link.Denot g.D.Link.Connection)} (λ s. is_some s) c.loop-at.dials.slots.items c.loop-at.at c.index_mut.result.now
    (omega (arith, c.loop-at-test.true, c.min-used.ensures, c.len.ensures, i.held, c.loop-at.dials.slots.ok.0)) c.index_mut.ensures.value h in
    omega (arith, r, i.inside, i.places, i.held, c.requires.room, c.loop-at.dials.slots.ok.0)
