use Rattle.std.proofs.Common.{subst}
use Rattle.bt_link.specs.Scripts.{draft_of, plan_of, IsTaken}
use Rattle.bt_link.proofs.Reading.{one_more_read, wrong_last, all_read}
use Rattle.bt_link.proofs.script.read_script.Goals as goal

pub lines-preserved : goal.lines-preserved
lines-preserved c =
    let d = draft_of c.lines.draft in
    let next = draft_of c.take.new.self in
    one_more_read c.args.text.now c.lines.rest.now c.in-Some.line.now c.in-Some.after.now c.lines.number d next c.lines.invariant c.in-Some.ensures.cut
    (subst (IsTaken d c.in-Some.line.now next) c.if-not-branch.false c.in_ok-take-in-Some.ensures)

pub returns-then-not-branch-2 : goal.returns-then-not-branch-2
returns-then-not-branch-2 c =
    let d = draft_of c.lines.draft in
    let next = draft_of c.take-in-None.new.self in
    wrong_last c.args.text.now c.lines.rest.now c.lines.number d c.lines.invariant c.in-None.ensures.cut
    (subst (IsTaken d c.lines.rest.now next) c.if-not-branch-2.true c.in_ok-take-in-None.ensures)

pub returns-in-None : goal.returns-in-None
returns-in-None c =
    let d = draft_of c.lines.draft in
    let next = draft_of c.take-in-None.new.self in
    all_read c.args.text.now c.lines.rest.now c.lines.number d next (plan_of c.settle.result) c.lines.invariant c.in-None.ensures.cut
    (subst (IsTaken d c.lines.rest.now next) c.if-not-branch-2.false c.in_ok-take-in-None.ensures) c.settle.ensures
