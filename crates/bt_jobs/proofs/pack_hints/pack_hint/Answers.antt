use Rattle.std.proofs.Common.{arith}
use Rattle.bt_jobs.proofs.PackHints.{no_hint, one_hint}
use Rattle.bt_jobs.proofs.pack_hints.pack_hint.Goals as goal

pub returns-in-Some-2 : goal.returns-in-Some-2
returns-in-Some-2 c =
    c.loop-line.invariant.hint _ (one_hint c.args.end _ _ _ c.in-Some.ensures.cut (rw c.in-Some-2.is at c.in_ok-hint.ensures))

pub loop-line-preserved : goal.loop-line-preserved
loop-line-preserved c = record {
  hint = λ hint h. c.loop-line.invariant.hint hint (no_hint c.args.end _ hint c.in-Some.ensures.cut (rw c.in_default-2.is at c.in_ok-hint.ensures) h);
  bound = omega (arith, c.loop-line.invariant.bound, c.in-Some.ensures.shorter);
}
