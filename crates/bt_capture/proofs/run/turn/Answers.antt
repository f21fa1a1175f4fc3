use Rattle.std.proofs.Common.{Bool, Ok, ap, subst}
use Rattle.std.proofs.lemmas.Result.{err_from_is_err_and}
use Rattle.bt_capture.specs.Ends.{IsMore}
use Rattle.bt_capture.specs.Following.{During}
use Rattle.bt_capture.proofs.Outcomes.{advances_after}
use Rattle.bt_capture.proofs.Seeing.{why_held}
use Rattle.bt_capture.proofs.run.turn.Goals as goal

pub returns-in-Err-clause-after : goal.returns-in-Err-clause-after
returns-in-Err-clause-after g c o i =
    let left = (g.R.Source.seen c.args.reader.now).left in
    let now = g.W.Target.seen c.args.writer.now in
    c.in-Err.ensures.after During o left c.step.new.run.connections.table c.step.new.packets (c.in_ok-step.ensures.after o left now i)

pub read_more-requires : goal.read_more-requires
read_more-requires g c = (c.in_ok-step.ensures.waits (ap (λ (b : Bool). Ok b) c.if-branch.false)).few

pub returns-then-branch-2-clause-turn : goal.returns-then-branch-2-clause-turn
returns-then-branch-2-clause-turn g c =
    let waits = c.in_ok-step.ensures.waits (ap (λ (b : Bool). Ok b) c.if-branch.false) in
    let P : Bool → Type 0 = λ b. IsMore (Ok b) c.read_more.new.packets (g.R.Source.seen c.args.reader.now) (g.R.Source.seen c.read_more.new.reader) in
    subst P c.if-branch-2.true (c.in_ok-read_more.ensures.more waits)

pub returns-clause-turn : goal.returns-clause-turn
returns-clause-turn g c =
    let before = g.R.Source.seen c.args.reader.now in
    let seen = g.R.Source.seen c.read_more.new.reader in
    let waits = c.in_ok-step.ensures.waits (ap (λ (b : Bool). Ok b) c.if-branch.false) in
    let P : Bool → Type 0 = λ b. IsMore (Ok b) c.read_more.new.packets before seen in
    let more = subst P c.if-branch-2.false (c.in_ok-read_more.ensures.more waits) in
    c.in_ok-end.ensures.ended before seen more.0 more.1

pub returns-in_err-end-clause-turn : goal.returns-in_err-end-clause-turn
returns-in_err-end-clause-turn g c =
    let before = g.R.Source.seen c.args.reader.now in
    let seen = g.R.Source.seen c.read_more.new.reader in
    let waits = c.in_ok-step.ensures.waits (ap (λ (b : Bool). Ok b) c.if-branch.false) in
    let P : Bool → Type 0 = λ b. IsMore (Ok b) c.read_more.new.packets before seen in
    let more = subst P c.if-branch-2.false (c.in_ok-read_more.ensures.more waits) in
    let stop = err_from_is_err_and c.from_residual-in_err-end.result c.from_residual-in_err-end.ensures.1 in
    rw (stop.1, stop.2) (c.in_err-end.ensures.ended before seen more.0 more.1)

pub returns-in_err-read_more-clause-turn : goal.returns-in_err-read_more-clause-turn
returns-in_err-read_more-clause-turn g c =
    let waits = c.in_ok-step.ensures.waits (ap (λ (b : Bool). Ok b) c.if-branch.false) in
    let stop = err_from_is_err_and c.from_residual-in_err-read_more.result c.from_residual-in_err-read_more.ensures.1 in
    rw (stop.1, stop.2) (c.in_err-read_more.ensures.more waits)

pub returns-in_err-step-clause-turn : goal.returns-in_err-step-clause-turn
returns-in_err-step-clause-turn g c =
    let stop = err_from_is_err_and c.from_residual.result c.from_residual.ensures.1 in
    rw (stop.1, stop.2) (why_held _ c.step.new.packets (g.R.Source.seen c.args.reader.now) c.in_err-step.ensures.why)

pub returns-then-branch-2-clause-advances : goal.returns-then-branch-2-clause-advances
returns-then-branch-2-clause-advances g c e =
    advances_after c.args.packets.now c.step.new.packets c.read_more.new.packets
    (c.in_ok-step.ensures.stays (ap (λ (b : Bool). Ok b) c.if-branch.false))
    (c.in_ok-read_more.ensures.advances (ap (λ (b : Bool). Ok b) c.if-branch-2.true))
