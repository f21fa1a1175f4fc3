use Rattle.std.proofs.Common.{◌≡◌, ◌++◌, ℕ, List, ap, ◌∙◌, arith}
use Rattle.bt_jobs.specs.Printed.{verdict_of}
use Rattle.bt_io.specs.Seen.{devices}
use Rattle.bt_jobs.specs.Printed.{text_in}
use Rattle.bt_jobs.proofs.Printing.{front_shown, front_shown_all, all_shown}
use Rattle.bt_jobs.proofs.show.run_form.Goals as goal

pub returns-in-Ok-push_verdict-clause-shown : goal.returns-in-Ok-push_verdict-clause-shown
returns-in-Ok-push_verdict-clause-shown g c =
    let t = rw c.new-printer.ensures.form at c.in-Ok.ensures.told in
    let text : text_in c.push_verdict.new.printer ≡ verdict_of c.args.form.now c.in-Ok.ended = c.in-Ok-push_verdict.ensures
    ∙ ap (λ (l : List ℕ). l ++ verdict_of c.args.form.now c.in-Ok.ended) c.in-Ok.ensures.empty in (
      t.0,
      t.1,
      all_shown c.args.form.now c.args.own.now t.0 (devices (g.R.Source.seen c.args.reader.now) (g.W.Target.seen c.args.writer.now))
          (devices (g.R.Source.seen c.tell.new.reader) (g.W.Target.seen c.flush.new.writer)) c.in-Ok.ended c.flush.result (record {
            limit = omega (arith, c.requires.1);
            one = c.one_verdict.ensures.one;
            mid = (g.W.Target.seen c.tell.new.writer).held;
            text = text_in c.push_verdict.new.printer;
            left = text_in c.flush.new.self;
            written = t.2;
            is = text;
            told = c.in-Ok.ensures.faults;
            flushed = c.flush.ensures.flushed;
          }),
    )

pub returns-in-Ok-clause-shown : goal.returns-in-Ok-clause-shown
returns-in-Ok-clause-shown g c =
    let t = rw c.new-printer.ensures.form at c.in-Ok.ensures.told in (
      t.0,
      t.1,
      front_shown_all c.args.form.now c.args.own.now t.0 (devices (g.R.Source.seen c.args.reader.now) (g.W.Target.seen c.args.writer.now))
          (devices (g.R.Source.seen c.tell.new.reader) (g.W.Target.seen c.tell.new.writer)) c.in-Ok.ended (omega (arith, c.requires.1))
          c.one_verdict.ensures.one t.2,
    )

pub returns-clause-shown : goal.returns-clause-shown
returns-clause-shown g c =
    let t = rw c.new-printer.ensures.form at c.in-Err.ensures.told in (
      t.0,
      t.1,
      front_shown c.args.form.now c.args.own.now t.0 (devices (g.R.Source.seen c.args.reader.now) (g.W.Target.seen c.args.writer.now))
          (devices (g.R.Source.seen c.tell.new.reader) (g.W.Target.seen c.tell.new.writer)) t.2,
    )
