use Rattle.std.proofs.Common.{◌++◌, refl, arith}
use Rattle.bt_jobs.proofs.PackPieces.{too_long}
use Rattle.bt_jobs.proofs.pack.take_ended.Goals as goal

pub returns-then-not-branch-clause-taken : goal.returns-then-not-branch-clause-taken
returns-then-not-branch-clause-taken c = λ own lines b e h.
    let held = rw c.if-not-branch.true at c.in_ok-hold.ensures in
    (refl, h.count, too_long own lines b (c.args.line.now.items ++ c.args.text.now) c.args.judge.now h (omega (arith, held.1, e)))
