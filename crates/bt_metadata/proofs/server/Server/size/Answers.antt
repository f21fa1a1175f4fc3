use Rattle.std.proofs.Common.{rules}
use Rattle.bt_metadata.proofs.server.Server.size.Goals as goal

pub returns-clause-value : goal.returns-clause-value
returns-clause-value g c = search rules

pub returns-clause-bounds : goal.returns-clause-bounds
returns-clause-bounds g c = search rules
