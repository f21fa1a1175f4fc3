use Rattle.std.proofs.Common.{rules}
use Rattle.bt_end.proofs.reactor.Reactor.renew.Goals as goal

pub returns-clause-end : goal.returns-clause-end
returns-clause-end g c = search rules

pub returns-clause-outbox : goal.returns-clause-outbox
returns-clause-outbox g c = search rules
