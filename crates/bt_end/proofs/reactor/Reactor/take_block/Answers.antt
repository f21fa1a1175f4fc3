use Rattle.std.proofs.Common.{rules}
use Rattle.bt_end.proofs.EventLaws.{mismatched}
use Rattle.bt_end.proofs.reactor.Reactor.take_block.Goals as goal

pub returns-clause-end : goal.returns-clause-end
returns-clause-end g c = search (mismatched, rules)
