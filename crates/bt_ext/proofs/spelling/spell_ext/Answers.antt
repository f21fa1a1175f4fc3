use Rattle.std.proofs.Common.{rules}
use Rattle.bt_ext.proofs.spelling.spell_ext.Goals as goal

pub returns-clause-ok : goal.returns-clause-ok
returns-clause-ok c = search rules
