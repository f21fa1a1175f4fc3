use Rattle.std.proofs.Common.{◌∙◌, arith}
use Rattle.bt_jobs.proofs.PackPieces.{end_empty, end_line, end_stop}
use Rattle.bt_jobs.proofs.pack.end_script.Goals as goal

pub returns-then-line-eq0 : goal.returns-then-line-eq0
returns-then-line-eq0 c = λ own text lines b e h.
    end_empty c.args.out.now.items h (omega (arith, c.if-line-eq0.true))
    (λ z. c.if-number-eq0.false (c.number.ensures.value ∙ z)) c.counts.ensures

pub returns-in-Ok-None : goal.returns-in-Ok-None
returns-in-Ok-None c = λ own text lines b e h.
    let end = rw c.in-Ok-None.field-0-is at (c.in-Ok-None.ensures own lines b e h.packed) in
    end_line c.args.out.now.items c.take_line.new.out.items c.take_line.new.judge h (omega (arith, c.if-line-eq0.false)) end c.counts-in-Ok-None.ensures

pub returns-in-Ok-Some : goal.returns-in-Ok-Some
returns-in-Ok-Some c = λ own text lines b e h.
    let end = rw c.in-Ok-Some.field-0-is at (c.in-Ok-Some.ensures own lines b e h.packed) in
    end_stop c.args.out.now.items c.take_line.new.out.items c.take_line.new.judge c.in-Ok-Some.reason h (omega (arith, c.if-line-eq0.false)) end
    c.number-in-Ok-Some.ensures.value
