use Rattle.std.proofs.Common.{◌-◌, ◌++◌, [], refl, arith}
use Rattle.std.proofs.KnownBytes.{Consumes-nil}
use Rattle.bt_io.specs.Seen.{devices}
use Rattle.bt_text.specs.declared.ended.Ended.TheVariants.{Accepted, Refused}
use Rattle.bt_text.specs.declared.ended.ToolFault.TheVariants as fault
use Rattle.bt_jobs.specs.Printed.{prefixed}
use Rattle.bt_jobs.proofs.Printing.{is_accepted, is_refused, nothing_checked, checked_all, end_of_said, said_failed, nothing_unrefused, pumped_unrefused}
use Rattle.bt_jobs.proofs.check.run_check_after.Goals as goal

pub returns-in-Ok-pump_with-clause-checked : goal.returns-in-Ok-pump_with-clause-checked
returns-in-Ok-pump_with-clause-checked g c =
    let m = c.in-Ok-pump_with.ensures.moved in
    let end = m.5 in
    checked_all c.args.prefix.now c.args.own.now (devices (g.R.Source.seen c.args.reader.now) (g.W.Target.seen c.args.writer.now))
    (devices (g.R.Source.seen c.pump_with.new.reader) (g.W.Target.seen c.say_after.new.writer))
    (Accepted (c.number-messages.result - 1) c.in-Ok-pump_with.bytes) c.say_after.result (record {
      limit = c.requires.1;
      one = c.one_verdict.ensures.one;
      bytes = m.0 ++ m.1;
      feed = c.in-Ok.feed;
      now = end.0;
      consumed = m.3;
      new = c.in-Ok.ensures.ok;
      comes = end.1.comes;
      ended = is_accepted end.0 c.pump_with.new.feed c.number-messages.result _ c.in-Ok-pump_with.bytes end.3 end.1.number c.number-messages.ensures.value refl;
      told = c.in-Ok-pump_with.ensures.end tt;
      written = c.say_after.ensures.written;
    })

pub returns-in-Err-Refused-clause-checked : goal.returns-in-Err-Refused-clause-checked
returns-in-Err-Refused-clause-checked g c =
    let m = c.in-Err-Refused.ensures.moved in
    let end = rw c.in-Err-Refused.field-0-is at m.5 in
    checked_all c.args.prefix.now c.args.own.now (devices (g.R.Source.seen c.args.reader.now) (g.W.Target.seen c.args.writer.now))
    (devices (g.R.Source.seen c.pump_with.new.reader) (g.W.Target.seen c.say_after-in-Err-Refused.new.writer))
    (Refused c.in-Err-Refused.refusal) c.say_after-in-Err-Refused.result (record {
      limit = c.requires.1;
      one = c.one_verdict.ensures.one;
      bytes = m.0 ++ m.1;
      feed = c.in-Ok.feed;
      now = end.0;
      consumed = m.3;
      new = c.in-Ok.ensures.ok;
      comes = end.1.comes;
      ended = is_refused end.0 c.in-Err-Refused.refusal end.3;
      told = rw c.in-Err-Refused.field-0-is at c.in-Err-Refused.ensures.end;
      written = c.say_after-in-Err-Refused.ensures.written;
    })

pub returns-in-Err-Turns-clause-checked : goal.returns-in-Err-Turns-clause-checked
returns-in-Err-Turns-clause-checked g c =
    let m = c.in-Err-Turns.ensures.moved in
    nothing_checked (prefixed c.args.prefix.now) c.args.own.now (g.R.Source.seen c.args.reader.now) (g.R.Source.seen c.pump_with.new.reader)
    (g.W.Target.seen c.args.writer.now) (m.0 ++ m.1) fault.Turns m.3

pub returns-in-Err-ReadFault-clause-checked : goal.returns-in-Err-ReadFault-clause-checked
returns-in-Err-ReadFault-clause-checked g c =
    let m = c.in-Err-ReadFault.ensures.moved in
    nothing_checked (prefixed c.args.prefix.now) c.args.own.now (g.R.Source.seen c.args.reader.now) (g.R.Source.seen c.pump_with.new.reader)
    (g.W.Target.seen c.args.writer.now) (m.0 ++ m.1) fault.Read m.3

pub returns-in-Err-ReadFault-clause-calm : goal.returns-in-Err-ReadFault-clause-calm
returns-in-Err-ReadFault-clause-calm g c = λ other. absurd (other refl)

pub returns-in-Ok-pump_with-clause-needed : goal.returns-in-Ok-pump_with-clause-needed
returns-in-Ok-pump_with-clause-needed g c =
    pumped_unrefused g.R.Source.seen c.args.own.now c.in-Ok.feed c.args.reader.now c.pump_with.new.reader c.requires.1 c.in-Ok.ensures.ok
    c.in-Ok-pump_with.ensures.needed

pub returns-in-Err-Refused-clause-needed : goal.returns-in-Err-Refused-clause-needed
returns-in-Err-Refused-clause-needed g c =
    pumped_unrefused g.R.Source.seen c.args.own.now c.in-Ok.feed c.args.reader.now c.pump_with.new.reader c.requires.1 c.in-Ok.ensures.ok
    c.in-Err-Refused.ensures.needed

pub returns-in-Err-Turns-clause-needed : goal.returns-in-Err-Turns-clause-needed
returns-in-Err-Turns-clause-needed g c =
    pumped_unrefused g.R.Source.seen c.args.own.now c.in-Ok.feed c.args.reader.now c.pump_with.new.reader c.requires.1 c.in-Ok.ensures.ok
    c.in-Err-Turns.ensures.needed

pub returns-in-Err-ReadFault-clause-needed : goal.returns-in-Err-ReadFault-clause-needed
returns-in-Err-ReadFault-clause-needed g c =
    pumped_unrefused g.R.Source.seen c.args.own.now c.in-Ok.feed c.args.reader.now c.pump_with.new.reader c.requires.1 c.in-Ok.ensures.ok
    c.in-Err-ReadFault.ensures.needed

pub returns-in_default-clause-needed : goal.returns-in_default-clause-needed
returns-in_default-clause-needed g c = (c.args.reader.now, nothing_unrefused c.args.own.now _ c.requires.1, omega arith)

pub returns-in_default-clause-checked : goal.returns-in_default-clause-checked
returns-in_default-clause-checked g c = nothing_checked (prefixed c.args.prefix.now) c.args.own.now (g.R.Source.seen c.args.reader.now)
    (g.R.Source.seen c.args.reader.now) (g.W.Target.seen c.args.writer.now) [] fault.Memory (Consumes-nil _)

pub returns-in-Err-Refused-clause-faults : goal.returns-in-Err-Refused-clause-faults
returns-in-Err-Refused-clause-faults g c =
    end_of_said (Refused c.in-Err-Refused.refusal) _ _ _ _ (g.R.Source.seen c.args.reader.now) (g.R.Source.seen c.pump_with.new.reader)
    c.say_after-in-Err-Refused.result (rw c.in-Err-Refused.field-0-is at c.in-Err-Refused.ensures.end) c.say_after-in-Err-Refused.ensures.written
    c.say_after-in-Err-Refused.ensures.fault

pub returns-in-Ok-pump_with-clause-faults : goal.returns-in-Ok-pump_with-clause-faults
returns-in-Ok-pump_with-clause-faults g c =
    end_of_said (Accepted (c.number-messages.result - 1) c.in-Ok-pump_with.bytes) _ _ _ _ (g.R.Source.seen c.args.reader.now)
    (g.R.Source.seen c.pump_with.new.reader) c.say_after.result (c.in-Ok-pump_with.ensures.end tt) c.say_after.ensures.written c.say_after.ensures.fault

pub returns-in-Ok-pump_with-clause-reads : goal.returns-in-Ok-pump_with-clause-reads
returns-in-Ok-pump_with-clause-reads g c = c.in-Ok-pump_with.ensures.reads

pub returns-in-Ok-pump_with-clause-calm : goal.returns-in-Ok-pump_with-clause-calm
returns-in-Ok-pump_with-clause-calm g c = λ _. c.in-Ok-pump_with.ensures.calm (λ e. absurd cc)

pub returns-in-Ok-pump_with-clause-write : goal.returns-in-Ok-pump_with-clause-write
returns-in-Ok-pump_with-clause-write g c = said_failed _ c.say_after.result c.say_after.ensures.fault

pub returns-in-Err-Refused-clause-reads : goal.returns-in-Err-Refused-clause-reads
returns-in-Err-Refused-clause-reads g c = c.in-Err-Refused.ensures.reads

pub returns-in-Err-Refused-clause-calm : goal.returns-in-Err-Refused-clause-calm
returns-in-Err-Refused-clause-calm g c = λ _. c.in-Err-Refused.ensures.calm (λ e. absurd (let is = c.in-Err-Refused.field-0-is in cc))

pub returns-in-Err-Refused-clause-write : goal.returns-in-Err-Refused-clause-write
returns-in-Err-Refused-clause-write g c = said_failed _ c.say_after-in-Err-Refused.result c.say_after-in-Err-Refused.ensures.fault
