use Rattle.std.proofs.Common.{rules}
use Rattle.bt_ext.proofs.view.read_ext.Goals as goal

pub returns-in_err-value-clause-err : goal.returns-in_err-value-clause-err
returns-in_err-value-clause-err c = search rules

pub returns-clause-ok : goal.returns-clause-ok
returns-clause-ok c = search rules
