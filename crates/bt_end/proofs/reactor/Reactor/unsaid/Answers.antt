use Rattle.std.proofs.Common.{rules}
use Rattle.bt_end.proofs.reactor.Reactor.unsaid.Goals as goal

pub returns-then-is_own_made : goal.returns-then-is_own_made
returns-then-is_own_made g c = search rules

pub returns-then-is_none-2 : goal.returns-then-is_none-2
returns-then-is_none-2 g c = search rules

pub returns-else-tells_pieces : goal.returns-else-tells_pieces
returns-else-tells_pieces g c = search rules
