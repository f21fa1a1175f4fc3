use Rattle.std.proofs.Common.{◌≤◌, ◌-◌, List, length, drop}
use Rattle.bt_wire.specs.Messages.{Message}
use Rattle.bt_session.specs.Nodes.{Spells, IsRecording}
use Rattle.bt_session.proofs.node.record.Given as goal

-- what is recorded so far
abbrev pub invariant-messages : goal.invariant-messages
invariant-messages l = record {
  within : l.at ≤ length l.bytes;
  recorded : (xs : List Message) → Spells l.context l.fn.first l.bytes xs → IsRecording l.context l.order (drop l.at l.bytes) l.fn.sent.items l.sent.items xs;
}

abbrev pub decreases-messages : goal.decreases-messages
decreases-messages l = length l.bytes - l.at
