use Rattle.std.proofs.Common.{rules}
use Rattle.bt_bencode.proofs.spelling.spell.Goals as goal

pub returns-then-not-fits-clause-out_of_range : goal.returns-then-not-fits-clause-out_of_range
returns-then-not-fits-clause-out_of_range c = search rules
