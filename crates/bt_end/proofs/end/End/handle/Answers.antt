use Rattle.std.proofs.Common.{◌≡◌, ◌-◌, Result, Ok, Err, length, take, drop, ap, subst, ◌∙◌, rules}
use Rattle.bt_end.specs.Halves.{received, IsTurned}
use Rattle.bt_end.specs.declared.end.Turn.{Turn}
use Rattle.bt_end.specs.declared.end.Turn.TheVariants.{Handled, Idle}
use Rattle.bt_end.specs.declared.end.TurnError.{TurnError}
use Rattle.bt_end.proofs.Handling.{rest_is, goes_on, idle_used, stops}
use Rattle.bt_end.proofs.end.End.handle.Goals as goal

pub rounds-preserved : goal.rounds-preserved
rounds-preserved g c =
    let now = c.rounds.self in
    let next = c.round-taken.new.self in
    let bytes = c.args.bytes.now in
    let rest = take (length bytes - c.rounds.used) (drop c.rounds.used bytes) in
    let turn = rw c.in-Ok-Handled.is at c.in-Ok-Handled.field-0-is in
    let is : c.round-taken.result.1 ≡ Ok Handled = c.in-Ok-Handled.is ∙ ap (λ (t : Turn). Ok t) turn in
    goes_on next (rest_is bytes c.rounds.used) c.round-taken.ensures.taken
    c.round-taken.ensures.in_range c.rounds.invariant
    (subst (λ (x : Result Turn TurnError). IsTurned (received now rest) x next) is c.round-taken.ensures.turned)

pub returns-in-Ok-Idle-clause-used : goal.returns-in-Ok-Idle-clause-used
returns-in-Ok-Idle-clause-used g c =
    let now = c.rounds.self in
    let next = c.round-taken.new.self in
    let bytes = c.args.bytes.now in
    let rest = take (length bytes - c.rounds.used) (drop c.rounds.used bytes) in
    let turn = rw c.in-Ok-Idle.is at c.in-Ok-Idle.field-0-is in
    let is : c.round-taken.result.1 ≡ Ok Idle = c.in-Ok-Idle.is ∙ ap (λ (t : Turn). Ok t) turn in
    idle_used now next bytes rest c.rounds.used c.round-taken.result.0 (rest_is bytes c.rounds.used) c.round-taken.ensures.taken
    c.round-taken.ensures.in_range c.rounds.invariant.within
    (subst (λ (x : Result Turn TurnError). IsTurned (received now rest) x next) is c.round-taken.ensures.turned)

pub returns-in-Ok-Idle-clause-handled : goal.returns-in-Ok-Idle-clause-handled
returns-in-Ok-Idle-clause-handled g c =
    let now = c.rounds.self in
    let next = c.round-taken.new.self in
    let bytes = c.args.bytes.now in
    let rest = take (length bytes - c.rounds.used) (drop c.rounds.used bytes) in
    let turn = rw c.in-Ok-Idle.is at c.in-Ok-Idle.field-0-is in
    let is : c.round-taken.result.1 ≡ Ok Idle = c.in-Ok-Idle.is ∙ ap (λ (t : Turn). Ok t) turn in
    stops (Ok tt) (rest_is bytes c.rounds.used) c.round-taken.ensures.taken c.rounds.invariant
    (subst (λ (x : Result Turn TurnError). IsTurned (received now rest) x next) is c.round-taken.ensures.turned)

pub returns-in-Ok-Idle-clause-in_range : goal.returns-in-Ok-Idle-clause-in_range
returns-in-Ok-Idle-clause-in_range g c = search rules

pub returns-in-Err-clause-handled : goal.returns-in-Err-clause-handled
returns-in-Err-clause-handled g c =
    let now = c.rounds.self in
    let next = c.round-taken.new.self in
    let bytes = c.args.bytes.now in
    let rest = take (length bytes - c.rounds.used) (drop c.rounds.used bytes) in
    stops (Err c.in-Err.error) (rest_is bytes c.rounds.used) c.round-taken.ensures.taken c.rounds.invariant
    (subst (λ (x : Result Turn TurnError). IsTurned (received now rest) x next) c.in-Err.is c.round-taken.ensures.turned)

pub returns-in-Err-clause-in_range : goal.returns-in-Err-clause-in_range
returns-in-Err-clause-in_range g c = search rules
