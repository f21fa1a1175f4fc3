use Rattle.std.proofs.Common.{rules}
use Rattle.bt_ext.specs.Tables.{told_ids}
use Rattle.bt_end.proofs.reactor.Reactor.reply.Goals as goal

pub returns-in-Data-clause-reacted : goal.returns-in-Data-clause-reacted
unfolding told_ids
returns-in-Data-clause-reacted g c = search rules
