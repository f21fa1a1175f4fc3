use Rattle.std.proofs.Common.{rules}
use Rattle.bt_wire.specs.Handshakes.{hand_fault}
use Rattle.bt_wire.proofs.handshake.judge_handshake.Goals as goal

pub returns-then-has_other_hash : goal.returns-then-has_other_hash
unfolding hand_fault
returns-then-has_other_hash c = search rules
