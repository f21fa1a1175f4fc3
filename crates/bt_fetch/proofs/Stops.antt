-- A connection that ended since nothing was told for too long.
use Rattle.std.proofs.Common.{◌≡◌, Bool, true, false, None, refl, sym, ◌∙◌, is_some, [], arith}
use Rattle.bt_end.specs.Ends.{metadata_of}
use Rattle.bt_end.specs.Halves.{HalfState}
use Rattle.bt_exchange.specs.Courses.{Moment}
use Rattle.bt_exchange.specs.Stops.{IsStopped}
use Rattle.bt_exchange.specs.declared.talking.Stop.TheVariants as stop
use Rattle.bt_fetch.specs.Outcomes.{IsOutcome}
use Rattle.bt_fetch.specs.declared.device.Outcome.{Outcome}
use Rattle.bt_fetch.specs.declared.device.Outcome.TheVariants as outcome
use Rattle.bt_fetch.specs.Logs.{is_fetched}

-- a moment at which the clock shows 1
abbrev pub at_one : HalfState → Moment
at_one a = record {
  seen = record { coming = None; gone = None; counts = record { calls = 0; ends = 0; failed = 0; clock = 1 } };
  pending = [];
  half = a;
}

pub silent_at_one : (a : HalfState) → IsStopped 0 (at_one a) (at_one a) stop.Silent
silent_at_one a = (record { ends = refl; failed = refl }, omega arith)

pub fetched_has : (a : HalfState) (o : Outcome) → is_fetched o ≡ true → IsOutcome a o → is_some (metadata_of a.end.part) ≡ true
fetched_has a outcome.Fetched h i = i
fetched_has a other h i = absurd cc

true_no : true ≡ false → ⊥
true_no h = absurd cc

pub no_both : (b : Bool) → b ≡ true → b ≡ false → ⊥
no_both b h k = true_no (sym h ∙ k)
