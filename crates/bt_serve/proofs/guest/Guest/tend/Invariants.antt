use Rattle.std.proofs.Common.{◌≡◌}
use Rattle.bt_exchange.specs.Courses.{Moment}
use Rattle.bt_serve.specs.Guests.{IsServed}
use Rattle.bt_serve.proofs.Services.{moment}
use Rattle.bt_serve.proofs.guest.Guest.tend.Given as goal

-- it is served as before, and with the same patience
abbrev pub invariant-loop-step : goal.invariant-loop-step
invariant-loop-step g l = record {
  served : (start : Moment) → IsServed start (moment (g.L.Connection.seen l.fn.self.link) l.fn.self.hearing l.fn.self.end) l.fn.self.watch.since
      l.fn.self.tally
      → IsServed start (moment (g.L.Connection.seen l.self.link) l.self.hearing l.self.end) l.self.watch.since l.self.tally;
  patience : l.self.patience ≡ l.fn.self.patience;
}
