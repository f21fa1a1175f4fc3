use Rattle.std.proofs.Common.{ap, arith}
use lib.Count.{count_trailing_zeros}
use Rattle.bt_json.proofs.Steps.{plain_step, stop_within}
use Rattle.bt_json.proofs.texts.plain_run.Goals as goal

pub returns-then-found-ne0-clause-plain : goal.returns-then-found-ne0-clause-plain
returns-then-found-ne0-clause-plain c =
    let same = c.stops-found.ensures in
    let zeros = ap (count_trailing_zeros 64) same in
    let short = stop_within c.args.bytes.now c.loop-run.run 32 (omega arith) (omega arith) (omega (arith, same)) in
    plain_step c.args.bytes.now c.loop-run.run 32 (count_trailing_zeros 64 c.stops-found.result) (omega arith) (omega arith) c.loop-run.invariant.1
    (omega (arith, zeros, short)) (λ _. omega (arith, zeros))

pub returns-then-found-ne0-clause-within : goal.returns-then-found-ne0-clause-within
returns-then-found-ne0-clause-within c =
    let same = c.stops-found.ensures in
    let short = stop_within c.args.bytes.now c.loop-run.run 32 (omega arith) (omega arith) (omega (arith, same)) in
    omega (arith, ap (count_trailing_zeros 64) same, short)

pub loop-run-preserved : goal.loop-run-preserved
loop-run-preserved c = (
  omega arith,
  plain_step c.args.bytes.now c.loop-run.run 32 32 (omega arith) (omega arith) c.loop-run.invariant.1 (omega arith)
      (λ some. absurd (omega (arith, some, c.stops-found.ensures, c.if-found-ne0.false))),
)
