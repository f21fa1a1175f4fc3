use Rattle.std.proofs.Common.{rules}
use Rattle.bt_wire.specs.Headers.{header_of}
use Rattle.bt_wire.specs.Faults.{header_fault}
use Rattle.bt_wire.proofs.header.judge_header.Goals as goal

pub returns-in-Some : goal.returns-in-Some
unfolding header_of header_fault
returns-in-Some c = search rules
