use Rattle.std.proofs.Common.{rules}
use Rattle.bt_bencode.proofs.dict_ref.check.Goals as goal

pub returns-in_err-n-clause-err : goal.returns-in_err-n-clause-err
returns-in_err-n-clause-err c = search rules

pub returns-clause-ok : goal.returns-clause-ok
returns-clause-ok c = search rules
