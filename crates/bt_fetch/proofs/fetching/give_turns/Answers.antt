use Rattle.std.proofs.Common.{is_some, arith}
use Rattle.bt_fetch.specs.declared.place.Place.{Place}
use Rattle.bt_fetch.proofs.Counts.{count_fits}
use Rattle.bt_fetch.proofs.fetching.give_turns.Goals as goal

pub give_turn-requires-clause-room : goal.give_turn-requires-clause-room
give_turn-requires-clause-room g c = λ h.
    let i = c.loop-at.invariant in
    let r = count_fits {X = Place g.row.D-Link.Denot g.D.Link.Connection} (λ p. is_some p.visit) c.loop-at.places.items in
    omega (arith, r, i.inside, i.places, i.held, i.slots, c.requires.room, c.loop-at.places.ok.0)
