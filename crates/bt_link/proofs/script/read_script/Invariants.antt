use Rattle.std.proofs.Common.{length}
use Rattle.bt_link.specs.Scripts.{draft_of}
use Rattle.bt_link.proofs.Reading.{IsReadTo}
use Rattle.bt_link.proofs.script.read_script.Given as goal

abbrev pub invariant-lines : goal.invariant-lines
invariant-lines l = IsReadTo l.text l.rest l.number (draft_of l.draft)

abbrev pub decreases-lines : goal.decreases-lines
decreases-lines l = length l.rest
