use Rattle.std.proofs.Common.{max, subst, ap, ◌||◌}
use Rattle.bt_remarks.specs.Said.{other, Blocks}
use Rattle.bt_remarks.specs.Known.{last_choke, last_answered, pending, overflowed}
use Rattle.bt_remarks.specs.Ends.{AreFoundOf}
use Rattle.bt_remarks.proofs.EndProofs.{none_found}
use Rattle.bt_remarks.proofs.HistoryProofs.{unanswered_is}
use Rattle.bt_remarks.proofs.halves.Half.unanswered.Goals as goal

pub returns : goal.returns
returns c = λ side events h g.
    subst (λ requests. AreFoundOf requests c.late.result) (unanswered_is c.args.ending.closed_first c.args.ending.stopped side events c.args.self.now
    c.args.theirs.now c.if-ending.false h g) c.late.ensures

pub returns-then-ending : goal.returns-then-ending
returns-then-ending c = λ side events _ _.
    none_found (c.args.ending.stopped || overflowed Blocks side events) c.args.ending.closed_first (max (last_choke (other side) events)
    (last_answered Blocks side events)) (pending Blocks side events)
    (ap (λ s. s || overflowed Blocks side events) c.if-ending.true)
