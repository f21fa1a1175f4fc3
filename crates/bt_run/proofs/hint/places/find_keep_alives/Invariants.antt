-- The bytes from the run's start up to the place are zero, and messages begin at both.
use Rattle.std.proofs.Common.{◌≤◌, ◌<◌, length}
use Rattle.bt_run.specs.Hints.{IsReached, AreZero}
use Rattle.bt_run.proofs.hint.places.find_keep_alives.Given as goal

abbrev pub invariant-messages : goal.invariant-messages
invariant-messages l = record {
  before : l.start ≤ l.place;
  within : l.start < l.place → l.place ≤ length l.bytes;
  from : IsReached l.bytes l.start;
  to : IsReached l.bytes l.place;
  zero_bytes : AreZero l.bytes l.start l.place;
}
