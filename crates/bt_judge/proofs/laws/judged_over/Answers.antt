use Rattle.bt_judge.proofs.Holes.{known_are_taken, missing_are_passed, judged_are_shown}
use Rattle.bt_judge.proofs.laws.judged_over.Goals as goal

pub returns-clause-known : goal.returns-clause-known
returns-clause-known c = known_are_taken

pub returns-clause-missing : goal.returns-clause-missing
returns-clause-missing c = missing_are_passed

pub returns-clause-shown : goal.returns-clause-shown
returns-clause-shown c = judged_are_shown
