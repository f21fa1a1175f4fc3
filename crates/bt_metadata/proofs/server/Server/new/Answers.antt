use Rattle.std.proofs.Common.{rules}
use Rattle.bt_metadata.proofs.server.Server.new.Goals as goal

pub invariant_of-result : goal.invariant_of-result
invariant_of-result g c = search rules

pub returns-clause-size : goal.returns-clause-size
returns-clause-size g c = search rules
