use Rattle.std.proofs.Common.{sym, subst}
use Rattle.bt_serve.specs.Guests.{IsStepped}
use Rattle.bt_serve.specs.declared.guest.Tally.{Tally}
use Rattle.bt_serve.proofs.Services.{moment}
use Rattle.bt_serve.proofs.Tallies.{stepped_sent}
use Rattle.bt_serve.proofs.guest.Guest.step.Goals as goal

pub returns-then-is_empty-clause-stepped : goal.returns-then-is_empty-clause-stepped
returns-then-is_empty-clause-stepped g c = λ start k.
    let guest = c.act-done.new.self in
    let now = moment (g.L.Connection.seen guest.link) guest.hearing guest.end in
    subst (λ (t : Tally). IsStepped start now guest.watch.since t c.act-done.result) (sym c.with_all_sent-self.ensures)
    (stepped_sent start now guest.watch.since guest.tally c.act-done.result (c.act-done.ensures.stepped start k))
