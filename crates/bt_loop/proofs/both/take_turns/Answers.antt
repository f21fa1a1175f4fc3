use Rattle.std.proofs.Common.{◌≡◌, ◌-◌, Result, Ok, Err, length, take, drop, ap, subst, ◌∙◌}
use Rattle.bt_end.specs.Halves.{received, IsTurned}
use Rattle.bt_end.specs.declared.end.Turn.{Turn}
use Rattle.bt_end.specs.declared.end.Turn.TheVariants.{Handled, Idle}
use Rattle.bt_end.specs.declared.end.TurnError.{TurnError}
use Rattle.bt_end.proofs.Handling.{rest_is}
use Rattle.bt_loop.proofs.Passing.{under_way_first, under_way_more, under_way_last}
use Rattle.bt_loop.proofs.both.take_turns.Goals as goal

pub turns-init : goal.turns-init
turns-init g c = under_way_first c.args.end.now c.args.bytes.now

pub turns-preserved : goal.turns-preserved
turns-preserved g c =
    let now = c.turns.end in
    let next = c.take_turn-taken.new.end in
    let bytes = c.args.bytes.now in
    let rest = take (length bytes - c.turns.used) (drop c.turns.used bytes) in
    let turn = rw c.in-Ok-Handled.is at c.in-Ok-Handled.field-0-is in
    let is : c.take_turn-taken.result.1 ≡ Ok Handled = c.in-Ok-Handled.is ∙ ap (λ (t : Turn). Ok t) turn in
    under_way_more next (rest_is bytes c.turns.used) c.take_turn-taken.ensures.taken c.take_turn-taken.ensures.in_range c.saturating_add-items.ensures
    c.turns.invariant (subst (λ (x : Result Turn TurnError). IsTurned (received now rest) x next) is c.take_turn-taken.ensures.turned)

pub returns-in-Ok-Idle : goal.returns-in-Ok-Idle
returns-in-Ok-Idle g c =
    let now = c.turns.end in
    let next = c.take_turn-taken.new.end in
    let bytes = c.args.bytes.now in
    let rest = take (length bytes - c.turns.used) (drop c.turns.used bytes) in
    let turn = rw c.in-Ok-Idle.is at c.in-Ok-Idle.field-0-is in
    let is : c.take_turn-taken.result.1 ≡ Ok Idle = c.in-Ok-Idle.is ∙ ap (λ (t : Turn). Ok t) turn in
    under_way_last next (Ok tt) (rest_is bytes c.turns.used) c.take_turn-taken.ensures.taken c.take_turn-taken.ensures.in_range c.turns.invariant
    (subst (λ (x : Result Turn TurnError). IsTurned (received now rest) x next) is c.take_turn-taken.ensures.turned)

pub returns-in-Err : goal.returns-in-Err
returns-in-Err g c =
    let now = c.turns.end in
    let next = c.take_turn-taken.new.end in
    let bytes = c.args.bytes.now in
    let rest = take (length bytes - c.turns.used) (drop c.turns.used bytes) in
    under_way_last next (Err c.in-Err.error) (rest_is bytes c.turns.used) c.take_turn-taken.ensures.taken c.take_turn-taken.ensures.in_range
    c.turns.invariant (subst (λ (x : Result Turn TurnError). IsTurned (received now rest) x next) c.in-Err.is c.take_turn-taken.ensures.turned)
