use Rattle.std.proofs.Common.{◌-◌, ◌++◌, refl, arith}
use Rattle.bt_text.specs.declared.ended.Ended.TheVariants.{Accepted, Refused}
use Rattle.bt_io.specs.Seen.{devices}
use Rattle.bt_jobs.specs.Printed.{form_of, so_far, turn_end}
use Rattle.bt_jobs.proofs.Printing.{end_of_turn, write_failed, goes_on, ends, is_accepted, is_refused, nothing_of_turn}
use Rattle.bt_jobs.proofs.show.turn.Goals as goal

pub returns-in-Ok-clause-told : goal.returns-in-Ok-clause-told
returns-in-Ok-clause-told g c = λ own b xs le r empty.
    let m = c.in-Ok.ensures.moved in
    let end = m.5 in
    ends own (so_far b xs) c.args.feed.now (devices (g.R.Source.seen c.args.reader.now) (g.W.Target.seen c.args.writer.now)) c.args.printer.now
    (turn_end (devices (g.R.Source.seen c.pump_with.new.reader) (g.W.Target.seen c.flush.new.writer)) c.pump_with.new.feed c.flush.new.self)
    (Accepted (c.number-messages.result - 1) c.in-Ok.bytes) c.flush.result (record {
      one = c.one_verdict.ensures.one;
      limit = omega (arith, le);
      read = r;
      empty = empty;
      bytes = m.0;
      lost = m.1;
      given = m.2;
      printer = c.pump_with.new.sink;
      now = end.0;
      consumed = m.3;
      took = m.4;
      pumped = end.1;
      flushed = c.flush.ensures.flushed;
      form_is = c.flush.ensures.form;
    })
    (is_accepted end.0 c.pump_with.new.feed c.number-messages.result _ c.in-Ok.bytes end.3 end.1.number c.number-messages.ensures.value refl)

pub returns-in-Err-Refused-clause-told : goal.returns-in-Err-Refused-clause-told
returns-in-Err-Refused-clause-told g c = λ own b xs le r empty.
    let m = c.in-Err-Refused.ensures.moved in
    let end = rw c.in-Err-Refused.field-0-is at m.5 in
    ends own (so_far b xs) c.args.feed.now (devices (g.R.Source.seen c.args.reader.now) (g.W.Target.seen c.args.writer.now)) c.args.printer.now
    (turn_end (devices (g.R.Source.seen c.pump_with.new.reader) (g.W.Target.seen c.flush-in-Err-Refused.new.writer)) c.pump_with.new.feed
    c.flush-in-Err-Refused.new.self)
    (Refused c.in-Err-Refused.refusal) c.flush-in-Err-Refused.result (record {
      one = c.one_verdict.ensures.one;
      limit = omega (arith, le);
      read = r;
      empty = empty;
      bytes = m.0;
      lost = m.1;
      given = m.2;
      printer = c.pump_with.new.sink;
      now = end.0;
      consumed = m.3;
      took = rw c.in-Err-Refused.field-0-is at m.4;
      pumped = end.1;
      flushed = c.flush-in-Err-Refused.ensures.flushed;
      form_is = c.flush-in-Err-Refused.ensures.form;
    })
    (is_refused end.0 c.in-Err-Refused.refusal end.3)

pub returns-in-Err-Turns-clause-told : goal.returns-in-Err-Turns-clause-told
returns-in-Err-Turns-clause-told g c = λ own b xs le r empty.
    let m = c.in-Err-Turns.ensures.moved in
    let end = rw c.in-Err-Turns.field-0-is at m.5 in
    goes_on own (so_far b xs) c.args.feed.now (devices (g.R.Source.seen c.args.reader.now) (g.W.Target.seen c.args.writer.now)) c.args.printer.now
    (turn_end (devices (g.R.Source.seen c.pump_with.new.reader) (g.W.Target.seen c.flush-in-Err-Turns.new.writer)) c.pump_with.new.feed
    c.flush-in-Err-Turns.new.self)
    c.flush-in-Err-Turns.result (record {
      one = c.one_verdict.ensures.one;
      limit = omega (arith, le);
      read = r;
      empty = empty;
      bytes = m.0;
      lost = m.1;
      given = m.2;
      printer = c.pump_with.new.sink;
      now = end.0;
      consumed = m.3;
      took = rw c.in-Err-Turns.field-0-is at m.4;
      pumped = end.1;
      flushed = c.flush-in-Err-Turns.ensures.flushed;
      form_is = c.flush-in-Err-Turns.ensures.form;
    }) end.2 end.3

pub returns-in-Err-ReadFault-clause-told : goal.returns-in-Err-ReadFault-clause-told
returns-in-Err-ReadFault-clause-told g c = λ own b xs le r empty.
    let m = c.in-Err-ReadFault.ensures.moved in
    (m.0 ++ m.1, m.3, nothing_of_turn (form_of c.args.printer.now) (m.0 ++ m.1) _ (omega (arith, le)) c.one_verdict.ensures.items r)

pub returns-in-Err-Sink-clause-told : goal.returns-in-Err-Sink-clause-told
returns-in-Err-Sink-clause-told g c = λ own b xs le r empty.
    let m = c.in-Err-Sink.ensures.moved in
    (m.0 ++ m.1, m.3, nothing_of_turn (form_of c.args.printer.now) (m.0 ++ m.1) _ (omega (arith, le)) c.one_verdict.ensures.items r)

pub returns-in-Err-ReadFault-clause-unfailed : goal.returns-in-Err-ReadFault-clause-unfailed
returns-in-Err-ReadFault-clause-unfailed g c = λ other. absurd (other refl)

pub returns-in-Ok-clause-faults : goal.returns-in-Ok-clause-faults
returns-in-Ok-clause-faults g c =
    end_of_turn (Accepted (c.number-messages.result - 1) c.in-Ok.bytes) _ _ _ _ (g.R.Source.seen c.args.reader.now) (g.R.Source.seen c.pump_with.new.reader)
    c.flush.result c.flush.ensures.flushed c.flush.ensures.fault (c.in-Ok.ensures.end tt)

pub returns-in-Err-Refused-clause-faults : goal.returns-in-Err-Refused-clause-faults
returns-in-Err-Refused-clause-faults g c =
    end_of_turn (Refused c.in-Err-Refused.refusal) _ _ _ _ (g.R.Source.seen c.args.reader.now) (g.R.Source.seen c.pump_with.new.reader)
    c.flush-in-Err-Refused.result c.flush-in-Err-Refused.ensures.flushed c.flush-in-Err-Refused.ensures.fault
    (rw c.in-Err-Refused.field-0-is at c.in-Err-Refused.ensures.end)

pub returns-in-Ok-clause-calm : goal.returns-in-Ok-clause-calm
returns-in-Ok-clause-calm g c = c.flush.ensures.calm

pub returns-in-Ok-clause-reads : goal.returns-in-Ok-clause-reads
returns-in-Ok-clause-reads g c = c.in-Ok.ensures.reads

pub returns-in-Ok-clause-unfailed : goal.returns-in-Ok-clause-unfailed
returns-in-Ok-clause-unfailed g c = λ _. c.in-Ok.ensures.calm (λ e. absurd cc)

pub returns-in-Ok-clause-write : goal.returns-in-Ok-clause-write
returns-in-Ok-clause-write g c = write_failed _ c.flush.result c.flush.ensures.failed

pub returns-in-Err-Refused-clause-calm : goal.returns-in-Err-Refused-clause-calm
returns-in-Err-Refused-clause-calm g c = c.flush-in-Err-Refused.ensures.calm

pub returns-in-Err-Refused-clause-reads : goal.returns-in-Err-Refused-clause-reads
returns-in-Err-Refused-clause-reads g c = c.in-Err-Refused.ensures.reads

pub returns-in-Err-Refused-clause-unfailed : goal.returns-in-Err-Refused-clause-unfailed
returns-in-Err-Refused-clause-unfailed g c = λ _. c.in-Err-Refused.ensures.calm (λ e. absurd (let is = c.in-Err-Refused.field-0-is in cc))

pub returns-in-Err-Refused-clause-write : goal.returns-in-Err-Refused-clause-write
returns-in-Err-Refused-clause-write g c = write_failed _ c.flush-in-Err-Refused.result c.flush-in-Err-Refused.ensures.failed

pub returns-in-Err-Turns-clause-calm : goal.returns-in-Err-Turns-clause-calm
returns-in-Err-Turns-clause-calm g c = c.flush-in-Err-Turns.ensures.calm

pub returns-in-Err-Turns-clause-reads : goal.returns-in-Err-Turns-clause-reads
returns-in-Err-Turns-clause-reads g c = c.in-Err-Turns.ensures.reads

pub returns-in-Err-Turns-clause-unfailed : goal.returns-in-Err-Turns-clause-unfailed
returns-in-Err-Turns-clause-unfailed g c = λ _. c.in-Err-Turns.ensures.calm (λ e. absurd (let is = c.in-Err-Turns.field-0-is in cc))

pub returns-in-Err-Turns-clause-write : goal.returns-in-Err-Turns-clause-write
returns-in-Err-Turns-clause-write g c = write_failed _ c.flush-in-Err-Turns.result c.flush-in-Err-Turns.ensures.failed
