use Rattle.std.proofs.Common.{inr}
use Rattle.bt_jobs.specs.Printed.{so_far}
use Rattle.bt_jobs.proofs.Hearing.{ended, turned, refused_or_ended}
use Rattle.bt_jobs.proofs.other.turn.Goals as goal

pub returns-in-Ok-clause-heard : goal.returns-in-Ok-clause-heard
returns-in-Ok-clause-heard g c = λ b xs r.
    let m = c.in-Ok.ensures.moved in
    let end = m.5 in
    ended (so_far b xs) c.args.feed.now c.pump_with.new.feed (g.R.Source.seen c.args.reader.now) (g.R.Source.seen c.pump_with.new.reader) c.args.listener.now
    c.pump_with.new.sink (record {
      listening = r;
      bytes = m.0;
      lost = m.1;
      given = m.2;
      now = end.0;
      consumed = m.3;
      took = m.4;
      pumped = end.1;
    }) (inr (c.in-Ok.ensures.end tt))

pub returns-in-Err-Refused-clause-heard : goal.returns-in-Err-Refused-clause-heard
returns-in-Err-Refused-clause-heard g c = λ b xs r.
    let m = c.in-Err-Refused.ensures.moved in
    let end = rw c.in-Err-Refused.field-0-is at m.5 in
    ended (so_far b xs) c.args.feed.now c.pump_with.new.feed (g.R.Source.seen c.args.reader.now) (g.R.Source.seen c.pump_with.new.reader) c.args.listener.now
    c.pump_with.new.sink (record {
      listening = r;
      bytes = m.0;
      lost = m.1;
      given = m.2;
      now = end.0;
      consumed = m.3;
      took = rw c.in-Err-Refused.field-0-is at m.4;
      pumped = end.1;
    }) (refused_or_ended _ end.0 _ end.3 (rw c.in-Err-Refused.field-0-is at c.in-Err-Refused.ensures.end))

pub returns-in-Err-Turns-clause-heard : goal.returns-in-Err-Turns-clause-heard
returns-in-Err-Turns-clause-heard g c = λ b xs r.
    let m = c.in-Err-Turns.ensures.moved in
    let end = rw c.in-Err-Turns.field-0-is at m.5 in
    turned (so_far b xs) c.args.feed.now c.pump_with.new.feed (g.R.Source.seen c.args.reader.now) (g.R.Source.seen c.pump_with.new.reader) c.args.listener.now
    c.pump_with.new.sink c.knows_all.result (record {
      listening = r;
      bytes = m.0;
      lost = m.1;
      given = m.2;
      now = end.0;
      consumed = m.3;
      took = rw c.in-Err-Turns.field-0-is at m.4;
      pumped = end.1;
    }) (c.knows_all.ensures.yes, c.knows_all.ensures.no) (end.2, end.3)
