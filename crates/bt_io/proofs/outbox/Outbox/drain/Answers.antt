use Rattle.std.proofs.Common.{rules}
use Rattle.bt_io.proofs.outbox.Outbox.drain.Goals as goal

pub returns-then-taken-wanted-clause-count : goal.returns-then-taken-wanted-clause-count
returns-then-taken-wanted-clause-count g c = search rules

pub returns-then-taken-wanted-clause-sends : goal.returns-then-taken-wanted-clause-sends
returns-then-taken-wanted-clause-sends g c = search rules

pub returns-then-taken-wanted-clause-failed : goal.returns-then-taken-wanted-clause-failed
returns-then-taken-wanted-clause-failed g c = search rules

pub returns-then-taken-wanted-clause-whole : goal.returns-then-taken-wanted-clause-whole
returns-then-taken-wanted-clause-whole g c = search rules

pub returns-clause-count : goal.returns-clause-count
returns-clause-count g c = search rules
