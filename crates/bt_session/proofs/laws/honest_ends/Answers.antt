use Rattle.bt_session.proofs.Links.{nothing_is_refused, handled_in_order, fetched_is_served}
use Rattle.bt_session.proofs.laws.honest_ends.Goals as goal

pub returns-clause-accepted : goal.returns-clause-accepted
returns-clause-accepted c = nothing_is_refused

pub returns-clause-in_order : goal.returns-clause-in_order
returns-clause-in_order c = handled_in_order

pub returns-clause-fetched : goal.returns-clause-fetched
returns-clause-fetched c = fetched_is_served
