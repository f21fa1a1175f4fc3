use Rattle.bt_capture.proofs.Tallying.{first_kind, other_kind, same_kind}
use Rattle.bt_capture.proofs.unread.Tally.count.Goals as goal

pub returns-in-None : goal.returns-in-None
returns-in-None c kinds is = first_kind kinds c.args.kind c.args.self.now is c.in-None.is

pub returns-then-first-kind : goal.returns-then-first-kind
returns-then-first-kind c kinds is = same_kind kinds c.args.kind c.in-Some.first c.args.self.now _ is c.in-Some.is c.if-first-kind.true c.saturating_add-self.ensures

pub returns-else-first-kind : goal.returns-else-first-kind
returns-else-first-kind c kinds is =
    other_kind kinds c.args.kind c.in-Some.first c.args.self.now _ is c.in-Some.is c.if-first-kind.false c.saturating_add-self-else-first-kind.ensures
