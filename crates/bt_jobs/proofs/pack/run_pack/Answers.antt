use Rattle.std.proofs.Common.{rules, ◌≡◌, ◌∙◌, ◌++◌, ◌+◌, ℕ, [], take, refl, sym, ap, arith}
use Rattle.std.proofs.KnownBytes.{Consumes-nil, Consumes-kept, Consumes-trans}
use Rattle.std.proofs.lemmas.Bool.{ne_eqb}
use Rattle.bt_io.specs.Seen.{devices, EndRead}
use Rattle.bt_feed.specs.Stages.{number_of}
use Rattle.bt_text.specs.declared.ended.PackEnd.{PackEnd}
use Rattle.bt_text.specs.declared.ended.PackEnd.TheVariants.{Refused}
use Rattle.bt_text.specs.declared.ended.ToolFault.TheVariants as fault
use Rattle.bt_jobs.specs.Packs.{stopped}
use Rattle.bt_jobs.specs.PackSteps.{packer}
use Rattle.bt_jobs.proofs.PackRuns.{timely_at_end, timely_line, out_is, IsPieceMore, run_starts, run_more, run_fails, more_fails}
use Rattle.bt_jobs.proofs.PackRuns.{packed_run, nothing_run, no_bytes, run_taken}
use Rattle.bt_jobs.proofs.PackRuns.{nothing_taken}
use Rattle.bt_jobs.proofs.pack.run_pack.Given.{Over}
use Rattle.bt_jobs.proofs.pack.run_pack.Goals.{After-write_out-in-Ok-None}
use Rattle.bt_jobs.proofs.pack.run_pack.Goals as goal

pub returns-in_default-clause-packed : goal.returns-in_default-clause-packed
returns-in_default-clause-packed g c = nothing_run c.args.own.now (devices (g.R.Source.seen c.args.reader.now) (g.W.Target.seen c.args.writer.now))
    fault.Memory c.requires.1

pub returns-in_default-with_capacity-clause-packed : goal.returns-in_default-with_capacity-clause-packed
returns-in_default-with_capacity-clause-packed g c = nothing_run c.args.own.now
    (devices (g.R.Source.seen c.args.reader.now) (g.W.Target.seen c.args.writer.now))
    fault.Memory c.requires.1

pub loop-turn-init : goal.loop-turn-init
loop-turn-init g c = record {
  reads = omega arith;
  most = omega arith;
  failed = refl;
  ends = refl;
  calm = refl;
  empty = c.in-Ok-with_capacity.ensures.items;
  run = run_starts c.args.own.now _ c.in-Ok.line.items c.new-judge.result c.requires.1 c.in-Ok.ensures.items c.new-judge.ensures;
}

pub returns-in-Ok-end_script-clause-packed : goal.returns-in-Ok-end_script-clause-packed
returns-in-Ok-end_script-clause-packed g c =
    let r = c.loop-turn.invariant.run in
    let none : c.in-Ok-eq0.field-0 ≡ 0 = omega (arith, c.in-Ok-eq0.field-0-test) in
    let end = c.in-Ok-end_script.ensures c.args.own.now r.text r.lines r.bytes refl (rw (sym c.as_slice.ensures.value) at r.read) in
    let AtEnd : Type 0 = EndRead (g.R.Source.seen c.args.reader.now) (g.R.Source.seen c.read.new.self) in
    let grew : AtEnd = search rules in
    packed_run c.args.own.now (devices (g.R.Source.seen c.args.reader.now) (g.W.Target.seen c.args.writer.now))
    (devices (g.R.Source.seen c.read.new.self) (g.W.Target.seen c.write_out.new.writer)) c.in-Ok-end_script.end c.write_out.result (record {
      limit = c.requires.1;
      text = r.text;
      all = end.2.0;
      first = r.bytes;
      last = end.0;
      held = (g.W.Target.seen c.loop-turn.writer).held;
      consumed = no_bytes _ _ _ r.text r.consumed (rw none at c.in-Ok-eq0.ensures.bytes.0);
      lines = end.2.1;
      packed = end.2.2;
      timely = timely_at_end c.args.own.now.limit r.text AtEnd c.in-Ok-end_script.end grew;
      before_last = r.written;
      written = rw (c.as_slice-in-Ok-end_script.ensures.value ∙ out_is _ _ end.0 c.loop-turn.invariant.empty end.1) at c.write_out.ensures.written;
    })

pub returns-in-Err-end_script-clause-packed : goal.returns-in-Err-end_script-clause-packed
returns-in-Err-end_script-clause-packed g c =
    let none : c.in-Ok-eq0.field-0 ≡ 0 = omega (arith, c.in-Ok-eq0.field-0-test) in
    run_fails c.args.own.now (devices (g.R.Source.seen c.args.reader.now) (g.W.Target.seen c.args.writer.now))
    (devices (g.R.Source.seen c.loop-turn.reader) (g.W.Target.seen c.loop-turn.writer)) (g.R.Source.seen c.read.new.self)
    c.loop-turn.line.items [] c.loop-turn.judge fault.Memory c.loop-turn.invariant.run
    (rw none at c.in-Ok-eq0.ensures.bytes.0)

piece_more : (g : Over) (c : After-write_out-in-Ok-None g) → IsPieceMore c.args.own.now
    (devices (g.R.Source.seen c.args.reader.now) (g.W.Target.seen c.args.writer.now))
    (devices (g.R.Source.seen c.loop-turn.reader) (g.W.Target.seen c.loop-turn.writer)) (g.R.Source.seen c.read.new.self) c.loop-turn.out.items
    (packer c.take_piece.new.line.items c.take_piece.new.judge c.take_piece.new.out.items)
piece_more g c =
    let r = c.loop-turn.invariant.run in
    record {
      line = c.loop-turn.line.items;
      judge = c.loop-turn.judge;
      run = r;
      piece = take c.in-Ok-read.count c.read.new.into;
      consumed = c.in-Ok-read.ensures.bytes.0;
      empty = c.loop-turn.invariant.empty;
      read = rw c.in-Ok-None.field-0-is at c.in-Ok-None.ensures c.args.own.now r.text r.lines r.bytes refl r.read;
    }

pub returns-in-Err-write_out-clause-packed : goal.returns-in-Err-write_out-clause-packed
returns-in-Err-write_out-clause-packed g c =
    more_fails c.args.own.now _ _ (devices (g.R.Source.seen c.read.new.self) (g.W.Target.seen c.write_out-in-Ok-None.new.writer)) _ _ c.in-Err-write_out.fault
    (piece_more g (goal.at.returns-in-Err-write_out-clause-packed g c).After-write_out-in-Ok-None)
    (rw c.as_slice-in-Ok-None.ensures.value at c.in-Err-write_out.ensures.written)

pub returns-in-Ok-Some-clause-packed : goal.returns-in-Ok-Some-clause-packed
returns-in-Ok-Some-clause-packed g c =
    let r = c.loop-turn.invariant.run in
    let piece = take c.in-Ok-read.count c.read.new.into in
    let p = rw c.in-Ok-Some.field-0-is at (c.in-Ok-Some.ensures c.args.own.now r.text r.lines r.bytes refl r.read) in
    let number = number_of c.take_piece.new.judge.stage + 1 in
    let e : PackEnd = Refused (c.number-line.result + 1) c.in-Ok-Some.reason in
    let same : e ≡ Refused number c.in-Ok-Some.reason = ap (λ (n : ℕ). Refused (n + 1) c.in-Ok-Some.reason) c.number-line.ensures.value in
    let AtEnd : Type 0 = EndRead (g.R.Source.seen c.args.reader.now) (g.R.Source.seen c.read.new.self) in
    packed_run c.args.own.now (devices (g.R.Source.seen c.args.reader.now) (g.W.Target.seen c.args.writer.now))
    (devices (g.R.Source.seen c.read.new.self) (g.W.Target.seen c.write_out-in-Ok-Some.new.writer)) e c.write_out-in-Ok-Some.result (record {
      limit = c.requires.1;
      text = r.text ++ piece;
      all = p.2.0;
      first = r.bytes;
      last = p.0;
      held = (g.W.Target.seen c.loop-turn.writer).held;
      consumed = Consumes-trans _ _ _ r.text piece r.consumed c.in-Ok-read.ensures.bytes.0;
      lines = p.2.1;
      packed = stopped number c.in-Ok-Some.reason p.2.2 same;
      timely = timely_line c.args.own.now.limit (r.text ++ piece) AtEnd e number c.in-Ok-Some.reason same p.3;
      before_last = r.written;
      written = rw (c.as_slice-in-Ok-Some.ensures.value ∙ out_is _ _ p.0 c.loop-turn.invariant.empty p.1) at c.write_out-in-Ok-Some.ensures.written;
    })

pub returns-in-Err-take_piece-clause-packed : goal.returns-in-Err-take_piece-clause-packed
returns-in-Err-take_piece-clause-packed g c =
    run_fails c.args.own.now (devices (g.R.Source.seen c.args.reader.now) (g.W.Target.seen c.args.writer.now))
    (devices (g.R.Source.seen c.loop-turn.reader) (g.W.Target.seen c.loop-turn.writer)) (g.R.Source.seen c.read.new.self)
    c.loop-turn.line.items (take c.in-Ok-read.count c.read.new.into) c.loop-turn.judge fault.Memory
    c.loop-turn.invariant.run c.in-Ok-read.ensures.bytes.0

pub returns-in-Err-clause-packed : goal.returns-in-Err-clause-packed
returns-in-Err-clause-packed g c =
    run_fails c.args.own.now (devices (g.R.Source.seen c.args.reader.now) (g.W.Target.seen c.args.writer.now))
    (devices (g.R.Source.seen c.loop-turn.reader) (g.W.Target.seen c.loop-turn.writer)) (g.R.Source.seen c.read.new.self)
    c.loop-turn.line.items [] c.loop-turn.judge fault.Read c.loop-turn.invariant.run
    (Consumes-kept _ _ _ [] (Consumes-nil _) c.in-Err.ensures.bytes)

pub returns-clause-packed : goal.returns-clause-packed
returns-clause-packed g c = run_fails c.args.own.now (devices (g.R.Source.seen c.args.reader.now) (g.W.Target.seen c.args.writer.now))
    (devices (g.R.Source.seen c.loop-turn.reader) (g.W.Target.seen c.loop-turn.writer)) (g.R.Source.seen c.loop-turn.reader)
    c.loop-turn.line.items [] c.loop-turn.judge fault.Turns c.loop-turn.invariant.run
    (Consumes-nil _)

pub loop-turn-preserved : goal.loop-turn-preserved
loop-turn-preserved g c =
    record {
      reads = omega (arith, c.in-Ok-read.ensures.reads, c.loop-turn.invariant.reads);
      most = omega (arith, c.in-Ok-read.ensures.reads, c.loop-turn.invariant.most);
      failed = c.in-Ok-read.ensures.failed ∙ c.loop-turn.invariant.failed;
      ends = rw (ne_eqb c.in-Ok-read.count 0 c.in-Ok-read.count-test.1) at c.in-Ok-read.ensures.ends ∙ c.loop-turn.invariant.ends;
      calm = c.in-Ok-write_out.ensures.calm ∙ c.loop-turn.invariant.calm;
      empty = c.clear.ensures.items;
      run = run_more c.args.own.now _ _ (devices (g.R.Source.seen c.read.new.self) (g.W.Target.seen c.write_out-in-Ok-None.new.writer)) _ _
          (piece_more g (goal.at.loop-turn-preserved g c).After-write_out-in-Ok-None)
          (rw c.as_slice-in-Ok-None.ensures.value at c.in-Ok-write_out.ensures.written.1);
    }

pub returns-clause-turns : goal.returns-clause-turns
returns-clause-turns g c = λ _. (omega (arith, c.loop-turn.invariant.reads, c.loop-turn.auto._turn-end), c.loop-turn.invariant.ends)

pub returns-in-Err-clause-unfailed : goal.returns-in-Err-clause-unfailed
returns-in-Err-clause-unfailed g c = λ other. absurd (other refl)

pub returns-in_default-clause-needed : goal.returns-in_default-clause-needed
returns-in_default-clause-needed g c = (c.args.reader.now, nothing_taken c.args.own.now _ c.requires.1, omega arith)

pub returns-in_default-with_capacity-clause-needed : goal.returns-in_default-with_capacity-clause-needed
returns-in_default-with_capacity-clause-needed g c = (c.args.reader.now, nothing_taken c.args.own.now _ c.requires.1, omega arith)

pub returns-in-Ok-end_script-clause-needed : goal.returns-in-Ok-end_script-clause-needed
returns-in-Ok-end_script-clause-needed g c =
    let i = c.loop-turn in
    (i.reader, run_taken c.args.own.now _ _ i.line.items i.judge i.invariant.run, omega (arith, c.in-Ok-eq0.ensures.reads))

pub returns-in-Err-end_script-clause-needed : goal.returns-in-Err-end_script-clause-needed
returns-in-Err-end_script-clause-needed g c =
    let i = c.loop-turn in
    (i.reader, run_taken c.args.own.now _ _ i.line.items i.judge i.invariant.run, omega (arith, c.in-Ok-eq0.ensures.reads))

pub returns-in-Err-write_out-clause-needed : goal.returns-in-Err-write_out-clause-needed
returns-in-Err-write_out-clause-needed g c =
    let i = c.loop-turn in
    (i.reader, run_taken c.args.own.now _ _ i.line.items i.judge i.invariant.run, omega (arith, c.in-Ok-read.ensures.reads))

pub returns-in-Ok-Some-clause-needed : goal.returns-in-Ok-Some-clause-needed
returns-in-Ok-Some-clause-needed g c =
    let i = c.loop-turn in
    (i.reader, run_taken c.args.own.now _ _ i.line.items i.judge i.invariant.run, omega (arith, c.in-Ok-read.ensures.reads))

pub returns-in-Err-take_piece-clause-needed : goal.returns-in-Err-take_piece-clause-needed
returns-in-Err-take_piece-clause-needed g c =
    let i = c.loop-turn in
    (i.reader, run_taken c.args.own.now _ _ i.line.items i.judge i.invariant.run, omega (arith, c.in-Ok-read.ensures.reads))

pub returns-in-Err-clause-needed : goal.returns-in-Err-clause-needed
returns-in-Err-clause-needed g c =
    let i = c.loop-turn in
    (i.reader, run_taken c.args.own.now _ _ i.line.items i.judge i.invariant.run, omega (arith, c.in-Err.ensures.reads))

pub returns-clause-needed : goal.returns-clause-needed
returns-clause-needed g c =
    let i = c.loop-turn in
    (i.reader, run_taken c.args.own.now _ _ i.line.items i.judge i.invariant.run, omega arith)
