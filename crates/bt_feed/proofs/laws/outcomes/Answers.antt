use Rattle.bt_wire.proofs.Coming.{item_comes, fault_comes, open_comes}
use Rattle.bt_feed.proofs.FeedLaws.{outcome_one, finish_verdict}
use Rattle.bt_feed.proofs.laws.outcomes.Goals as goal

pub returns-clause-item : goal.returns-clause-item
returns-clause-item c = item_comes

pub returns-clause-fault : goal.returns-clause-fault
returns-clause-fault c = fault_comes

pub returns-clause-waiting : goal.returns-clause-waiting
returns-clause-waiting c = open_comes

pub returns-clause-one : goal.returns-clause-one
returns-clause-one c = outcome_one

pub returns-clause-finish : goal.returns-clause-finish
returns-clause-finish c = finish_verdict
