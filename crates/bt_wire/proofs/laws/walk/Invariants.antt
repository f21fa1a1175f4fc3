use Rattle.std.proofs.Common.{◌≤◌, ◌+◌, ◌-◌, length, drop}
use Rattle.bt_wire.specs.declared.context.Order.TheVariants.{Fresh}
use Rattle.bt_wire.specs.Streams.{Outcome, IsOutcome}
use Rattle.bt_wire.proofs.laws.walk.Given as goal

-- after the messages so far, the outcome of the rest is the outcome of all
abbrev pub invariant-messages : goal.invariant-messages
invariant-messages l = record {
  within : l.at ≤ length l.messages;
  moved : l.number ≤ l.at + 1;
  told : (v : Outcome) → IsOutcome l.context l.order (68 + l.at) l.number (drop l.at l.messages) v → (u : Outcome)
      × IsOutcome l.context Fresh 68 1 l.messages u;
}

abbrev pub decreases-messages : goal.decreases-messages
decreases-messages l = length l.messages - l.at
