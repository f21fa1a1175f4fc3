use Rattle.std.proofs.Common.{None, Some, max, subst, sym}
use Rattle.bt_remarks.specs.Ends.{late_of, AreFoundOf}
use Rattle.bt_remarks.specs.Tables.{request_at}
use Rattle.bt_remarks.specs.declared.tallies.Request.{Request}
use Rattle.bt_remarks.proofs.EndProofs.{none_found, late_found}
use Rattle.bt_remarks.proofs.requests.Requests.late.Goals as goal

pub returns-then-self : goal.returns-then-self
returns-then-self c = none_found c.args.self.now.overflowed c.args.closed (max c.args.later c.args.self.now.answered)
    (request_at c.args.self.now) c.if-self.true

pub returns-in-Some : goal.returns-in-Some
returns-in-Some c =
    let requests = late_of c.args.self.now.overflowed c.args.closed (max c.args.later c.args.self.now.answered) (request_at c.args.self.now) in
    subst (λ (r : Request). AreFoundOf requests (record { count = c.count_late-count.result; first = Some r })) (sym c.request_of.ensures)
    (late_found c.args.self.now.overflowed c.args.closed (max c.args.later c.args.self.now.answered) c.max-later.result c.count_late-count.result
    c.args.self.now.pending.entries (Some c.in-Some.entry) c.if-self.false c.max-later.ensures
    c.count_late-count.ensures.ordered c.count_late-count.ensures.count c.in-Some.ensures)

pub returns-in-None : goal.returns-in-None
returns-in-None c =
    late_found c.args.self.now.overflowed c.args.closed (max c.args.later c.args.self.now.answered) c.max-later.result c.count_late-count.result
    c.args.self.now.pending.entries None c.if-self.false c.max-later.ensures
    c.count_late-count.ensures.ordered c.count_late-count.ensures.count c.in-None.ensures
