use Rattle.std.proofs.Common.{refl, Ok, Err}
use Rattle.bt_loop.proofs.LoopFetch.{IsFetchStart, printed_fetching, run_of}
use Rattle.bt_loop.proofs.Looping.{linked_so, linked_stopped, fault_printed, fault_stopped, run_calm, stopped_calm, unended_by, unended_calm}
use Rattle.bt_loop.proofs.looped.link.Goals as goal

pub returns-in-Ok-clause-linked : goal.returns-in-Ok-clause-linked
returns-in-Ok-clause-linked g c =
    linked_so _ _ c.args.left.now c.args.right.now _ _ c.in-Ok.handled _ _ c.print.result c.in-Ok.ensures c.print.ensures.printed

pub returns-in-Ok-clause-net : goal.returns-in-Ok-clause-net
returns-in-Ok-clause-net g c =
    let s = g.W.Wire.seen c.args.wire.now in
    let t = g.W.Wire.seen c.run_both.new.wire in
    let calm = run_calm s t c.args.left.now c.args.right.now c.run_both.new.left c.run_both.new.right c.in-Ok.handled c.in-Ok.ensures in
    fault_printed s t c.in-Ok.handled c.run_both.new.right _ _ c.print.result calm c.print.ensures.printed

pub returns-in-Ok-clause-fetches : goal.returns-in-Ok-clause-fetches
returns-in-Ok-clause-fetches g c clear metadata a b pair left right =
    let start : IsFetchStart metadata (g.W.Wire.seen c.args.wire.now) c.args.left.now c.args.right.now =
    record { serving = a; fetching = b; pair = pair; clear = clear; left = left; right = right } in
    printed_fetching c.in-Ok.handled c.run_both.new.right _ _ c.print.result metadata
    (run_of (g.W.Wire.seen c.run_both.new.wire) c.run_both.new.left c.run_both.new.right (Ok c.in-Ok.handled) start c.in-Ok.ensures) c.print.ensures.printed

pub returns-in-Err-Stopped-clause-linked : goal.returns-in-Err-Stopped-clause-linked
returns-in-Err-Stopped-clause-linked g c =
    linked_stopped _ _ c.args.left.now c.args.right.now _ _ _ _ c.write_lines.result (rw c.in-Err-Stopped.field-0-is at c.in-Err-Stopped.ensures) c.write_lines.ensures.written

pub returns-in-Err-Stopped-clause-net : goal.returns-in-Err-Stopped-clause-net
returns-in-Err-Stopped-clause-net g c =
    let s = g.W.Wire.seen c.args.wire.now in
    let t = g.W.Wire.seen c.run_both.new.wire in
    let calm = stopped_calm s t c.args.left.now c.args.right.now c.run_both.new.left c.run_both.new.right
    (rw c.in-Err-Stopped.field-0-is at c.in-Err-Stopped.ensures) in
    fault_stopped s t _ _ c.write_lines.result calm c.write_lines.ensures.written

pub returns-in-Err-Stopped-clause-fetches : goal.returns-in-Err-Stopped-clause-fetches
returns-in-Err-Stopped-clause-fetches g c clear metadata a b pair left right =
    let start : IsFetchStart metadata (g.W.Wire.seen c.args.wire.now) c.args.left.now c.args.right.now =
    record { serving = a; fetching = b; pair = pair; clear = clear; left = left; right = right } in
    let never = run_of (g.W.Wire.seen c.run_both.new.wire) c.run_both.new.left c.run_both.new.right (Err c.in-Err-Stopped.field-0) start c.in-Err-Stopped.ensures in
    absurd (rw c.in-Err-Stopped.field-0-is at never)

pub returns-in-Err-Rounds-clause-linked : goal.returns-in-Err-Rounds-clause-linked
returns-in-Err-Rounds-clause-linked g c =
    (unended_by _ _ c.args.left.now c.args.right.now _ _ c.in-Err-Rounds.field-0 c.in-Err-Rounds.field-0-is c.in-Err-Rounds.ensures, refl)

pub returns-in-Err-Rounds-clause-net : goal.returns-in-Err-Rounds-clause-net
returns-in-Err-Rounds-clause-net g c =
    unended_calm 1048576 _ _ c.args.left.now c.args.right.now _ _ c.in-Err-Rounds.field-0 c.in-Err-Rounds.field-0-is c.in-Err-Rounds.ensures

pub returns-in-Err-Rounds-clause-fetches : goal.returns-in-Err-Rounds-clause-fetches
returns-in-Err-Rounds-clause-fetches g c clear metadata a b pair left right =
    let start : IsFetchStart metadata (g.W.Wire.seen c.args.wire.now) c.args.left.now c.args.right.now =
    record { serving = a; fetching = b; pair = pair; clear = clear; left = left; right = right } in
    let few = run_of (g.W.Wire.seen c.run_both.new.wire) c.run_both.new.left c.run_both.new.right (Err c.in-Err-Rounds.field-0) start c.in-Err-Rounds.ensures in
    rw c.in-Err-Rounds.field-0-is at few
