-- For private contracts: one round of an exchange.
use Rattle.std.specs.Prelude.{◌≡◌, ◌≤◌, ◌+◌, ℕ, Bool, true, false, not, List, [], ◌∷◌, is_some, Option, Some, None, Result, Ok, Err, ⊤}
use Rattle.std.specs.List.{list_all}
use Rattle.bt_end.specs.Ends.{EndState, metadata_of, is_hopeless}
use Rattle.bt_end.specs.declared.event.Event.{Event}
use Rattle.bt_exchange.specs.Courses.{Moment, events}
use Rattle.bt_exchange.specs.Stops.{IsCalm, IsMade, IsOpen, IsStopped, is_done, is_news, is_piece, is_unasked, no_news, no_piece, steps_of}
use Rattle.bt_exchange.specs.Stops.{stops_unasked}
use Rattle.bt_exchange.specs.declared.talking.Step.{Step}
use Rattle.bt_exchange.specs.declared.talking.Step.TheVariants as step
use Rattle.bt_exchange.specs.declared.talking.Stop.{Stop}
use Rattle.bt_exchange.specs.declared.talking.Stop.TheVariants as stop

-- whether, and why, a fetch is over
abbrev pub IsVerdict : EndState → Option Stop → Type 0
IsVerdict e None = IsOpen e
IsVerdict e (Some stop.Done) = is_some (metadata_of e.part) ≡ true
IsVerdict e (Some stop.Mismatch) = (is_some (metadata_of e.part) ≡ false) × (2 ≤ e.mismatches)
IsVerdict e (Some stop.Hopeless) = (is_some (metadata_of e.part) ≡ false) × (is_hopeless e ≡ true)
IsVerdict e (Some other) = ⊥

abbrev pub is_over : {A : Type 0} → Result A Stop → Bool
is_over (Ok x) = false
is_over (Err e) = is_done e

-- it goes on with no news, and in time; with news; or it stopped
abbrev pub IsRound : ℕ → (old new : Moment) → List Event → Result (Option Event) Stop → Type 0
IsRound until old new es (Ok None) = IsCalm old.seen.counts new.seen.counts × IsOpen new.half.end × (new.seen.counts.clock ≤ until)
    × (list_all no_news es ≡ true)
IsRound until old new es (Ok (Some e)) = IsCalm old.seen.counts new.seen.counts × IsOpen new.half.end × (es ≡ e ∷ []) × (is_news e ≡ true)
IsRound until old new es (Err e) = IsStopped until old new e × (e ≡ stop.Rounds → ⊥) × (e ≡ stop.Silent → list_all no_news es ≡ true)

-- a step, or a failed one, and its watch
pub record IsRounded (until : ℕ) (old new : Moment) (r : Result (Option Event) Stop) : Type 0 where
  pub n : ℕ
  pub least : steps_of r ≤ n
  pub most : n ≤ 1
  pub made : IsMade n old new
  pub once : new.seen.counts.calls ≤ old.seen.counts.calls + 1
  pub unasked : list_all no_piece (events old.half.end made.moved.course.items) ≡ not (stops_unasked r)
  pub round : IsRound until old new (events old.half.end made.moved.course.items) r

-- what a step makes a round, by the end after it
abbrev pub IsJudged : Step → EndState → Result (Option Event) Stop → Type 0
IsJudged (step.Handled v) e (Ok None) = (is_news v ≡ false) × (is_piece v ≡ false) × IsOpen e
IsJudged (step.Handled v) e (Ok (Some w)) = (w ≡ v) × (is_news v ≡ true) × (is_piece v ≡ false) × IsOpen e
IsJudged (step.Handled v) e (Err s) = (is_piece v ≡ is_unasked s) × (is_piece v ≡ false → IsVerdict e (Some s))
IsJudged other e (Ok None) = ⊤
IsJudged other e r = ⊥
