use Rattle.std.proofs.Common.{refl, ◌∙◌, arith}
use Rattle.bt_io.specs.Seen.{devices}
use Rattle.bt_jobs.proofs.Printing.{told_first, told_more, told_end, told_fault, told_so_far, told_unrefused, nothing_unrefused}
use Rattle.bt_jobs.proofs.show.tell.Goals as goal

pub loop-turn-init : goal.loop-turn-init
loop-turn-init g c = record {
  reads = omega arith;
  most = omega arith;
  failed = refl;
  ends = refl;
  calm = refl;
  told = told_first c.args.own.now _ _ c.in-Ok.feed c.args.printer.now c.requires.limit.1 c.in-Ok.ensures.ok c.requires.empty;
}

pub loop-turn-preserved : goal.loop-turn-preserved
loop-turn-preserved g c =
    let t = c.loop-turn.invariant.told in
    let more = rw c.in-Ok-None.field-0-is at (c.in-Ok-None.ensures.told c.args.own.now t.bytes t.items c.requires.limit.1 t.read t.empty) in
    let end = rw c.in-Ok-None.field-0-is at c.in-Ok-None.ensures.faults in
    record {
      reads = omega (arith, end.0, c.loop-turn.invariant.reads);
      most = omega (arith, c.in-Ok-None.ensures.reads, c.loop-turn.invariant.most);
      failed = end.1 ∙ c.loop-turn.invariant.failed;
      ends = end.2 ∙ c.loop-turn.invariant.ends;
      calm = c.in-Ok-None.ensures.calm ∙ c.loop-turn.invariant.calm;
      told = told_more (devices (g.R.Source.seen c.loop-turn.reader) (g.W.Target.seen c.loop-turn.writer))
          (devices (g.R.Source.seen c.turn.new.reader) (g.W.Target.seen c.turn.new.writer)) c.turn.new.feed c.turn.new.printer t more;
    }

pub returns-in-Ok-Some-clause-told : goal.returns-in-Ok-Some-clause-told
returns-in-Ok-Some-clause-told g c =
    let t = c.loop-turn.invariant.told in
    let end = rw c.in-Ok-Some.field-0-is at (c.in-Ok-Some.ensures.told c.args.own.now t.bytes t.items c.requires.limit.1 t.read t.empty) in
    (told_end (devices (g.R.Source.seen c.loop-turn.reader) (g.W.Target.seen c.loop-turn.writer))
    (devices (g.R.Source.seen c.turn.new.reader) (g.W.Target.seen c.turn.new.writer)) c.turn.new.feed c.turn.new.printer c.in-Ok-Some.ended t end).0

pub returns-in-Ok-Some-clause-empty : goal.returns-in-Ok-Some-clause-empty
returns-in-Ok-Some-clause-empty g c =
    let t = c.loop-turn.invariant.told in
    let end = rw c.in-Ok-Some.field-0-is at (c.in-Ok-Some.ensures.told c.args.own.now t.bytes t.items c.requires.limit.1 t.read t.empty) in
    (told_end (devices (g.R.Source.seen c.loop-turn.reader) (g.W.Target.seen c.loop-turn.writer))
    (devices (g.R.Source.seen c.turn.new.reader) (g.W.Target.seen c.turn.new.writer)) c.turn.new.feed c.turn.new.printer c.in-Ok-Some.ended t end).1

pub returns-in-Err-clause-told : goal.returns-in-Err-clause-told
returns-in-Err-clause-told g c =
    let t = c.loop-turn.invariant.told in
    told_fault (devices (g.R.Source.seen c.args.reader.now) (g.W.Target.seen c.args.writer.now))
    (devices (g.R.Source.seen c.loop-turn.reader) (g.W.Target.seen c.loop-turn.writer))
    (devices (g.R.Source.seen c.turn.new.reader) (g.W.Target.seen c.turn.new.writer)) c.turn.new.feed c.turn.new.printer c.in-Err.fault t
    (c.in-Err.ensures.told c.args.own.now t.bytes t.items c.requires.limit.1 t.read t.empty)

pub returns-clause-told : goal.returns-clause-told
returns-clause-told g c = told_so_far _ c.args.own.now (devices (g.R.Source.seen c.args.reader.now) (g.W.Target.seen c.args.writer.now))
    (devices (g.R.Source.seen c.loop-turn.reader) (g.W.Target.seen c.loop-turn.writer)) c.loop-turn.feed c.loop-turn.printer c.requires.limit.1
    c.one_verdict.ensures.one
    c.loop-turn.invariant.told

pub returns-clause-faults : goal.returns-clause-faults
returns-clause-faults g c = (omega (arith, c.loop-turn.invariant.reads, c.loop-turn.auto._turn-end), c.loop-turn.invariant.ends)

pub returns-in-Ok-Some-clause-needed : goal.returns-in-Ok-Some-clause-needed
returns-in-Ok-Some-clause-needed g c = (
  c.loop-turn.reader,
  told_unrefused _ c.args.own.now _ _ _ _ c.loop-turn.feed c.loop-turn.printer c.loop-turn.invariant.told,
  c.in-Ok-Some.ensures.reads,
)

pub returns-in-Err-clause-needed : goal.returns-in-Err-clause-needed
returns-in-Err-clause-needed g c = (
  c.loop-turn.reader,
  told_unrefused _ c.args.own.now _ _ _ _ c.loop-turn.feed c.loop-turn.printer c.loop-turn.invariant.told,
  c.in-Err.ensures.reads,
)

pub returns-clause-needed : goal.returns-clause-needed
returns-clause-needed g c = (
  c.loop-turn.reader,
  told_unrefused _ c.args.own.now _ _ _ _ c.loop-turn.feed c.loop-turn.printer c.loop-turn.invariant.told,
  omega arith,
)

pub returns-in_default-clause-needed : goal.returns-in_default-clause-needed
returns-in_default-clause-needed g c = (c.args.reader.now, nothing_unrefused c.args.own.now _ c.requires.limit.1, omega arith)
