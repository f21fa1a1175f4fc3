use Rattle.bt_feed.proofs.Stepping.{given_all, given_refused}
use Rattle.std.proofs.Common.{refl}
use Rattle.bt_feed.proofs.feed.Feed.items.Goals as goal

pub returns-clause-all : goal.returns-clause-all
returns-clause-all g c = λ xs u y. given_all _ xs u refl y

pub returns-clause-refused : goal.returns-clause-refused
returns-clause-refused g c = λ xs r u y. given_refused _ xs r u y
