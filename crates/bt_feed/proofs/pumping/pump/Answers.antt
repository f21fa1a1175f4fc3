use Rattle.std.proofs.Common.{rules}
use Rattle.bt_feed.proofs.pumping.pump.Goals as goal

pub returns-clause-turns : goal.returns-clause-turns
returns-clause-turns g c = search rules
