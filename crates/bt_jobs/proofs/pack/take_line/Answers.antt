use Rattle.std.proofs.Common.{refl, arith, rules}
use Rattle.bt_jobs.specs.Packs.{is_none}
use Rattle.bt_jobs.proofs.Packing.{taken_so_far, first_flag, read_as, not_read}
use Rattle.bt_jobs.proofs.pack.take_line.Goals as goal

pub returns-then-text-from : goal.returns-then-text-from
returns-then-text-from c = λ own lines b e h.
    let so_far = taken_so_far own lines b c.args.judge.now h in
    (refl, h.count, (so_far.0, so_far.1.taken, λ x named. absurd (omega (arith, named.short, c.if-text-from.true, e))))

pub returns-then-not-branch : goal.returns-then-not-branch
returns-then-not-branch c = λ own lines b e h.
    let so_far = taken_so_far own lines b c.args.judge.now h in
    let flag = first_flag own lines b c.args.judge.now c.number-first.result h c.number-first.ensures.value in
    let no = not_read own.limit _ (is_none lines) c.args.text.now c.args.out.now.items c.append_line.new.out.items c.in_ok-append_line.field-0
    c.if-not-branch.true flag c.in_ok-append_line.ensures in
    (no.1, h.count, (so_far.0, so_far.1.taken, no.0))

pub returns : goal.returns
returns c = λ own lines b e h.
    let flag = first_flag own lines b c.args.judge.now c.number-first.result h c.number-first.ensures.value in
    c.judge_added.ensures own lines b c.args.text.now c.args.out.now.items h (search rules)
    (read_as own.limit _ (is_none lines) c.args.text.now c.args.out.now.items c.append_line.new.out.items c.in_ok-append_line.field-0
    c.if-not-branch.false flag (omega (arith, c.if-text-from.false, e)) c.in_ok-append_line.ensures)
