use Rattle.std.proofs.Common.{Bool, Ok, [], refl, ap, ◌∙◌, arith}
use Rattle.std.proofs.KnownBytes.{Consumes-nil}
use Rattle.std.proofs.Common.{None}
use Rattle.bt_feed.specs.declared.stage.Stage.TheVariants as stage
use Rattle.bt_text.specs.declared.ended.ToolFault.TheVariants as fault
use Rattle.bt_jobs.proofs.Hearing.{AreLaws, listening_first, listening_more, learnt, not_learnt, fault_of_turn, no_fault, read_failed, grew_since, waits}
use Rattle.bt_jobs.proofs.Hearing.{nothing_read}
use Rattle.bt_jobs.proofs.other.read_other.Goals as goal

pub loop-turn-init : goal.loop-turn-init
loop-turn-init g c = record {
  reads = omega arith;
  most = omega arith;
  failed = refl;
  ends = refl;
  heard = listening_first _ c.in-Ok.feed _ (c.in-Ok.ensures.ok ∙ ap (λ o. record { stage = stage.Handshake o; held = []; refused = None })
      c.reader_of_other.ensures) c.new-listener.ensures;
}

pub loop-turn-preserved : goal.loop-turn-preserved
loop-turn-preserved g c =
    let t = c.loop-turn.invariant.heard in
    let more = rw c.in-Ok-false.field-0-test at (c.in-Ok-false.ensures.heard t.bytes t.items t.listening) in
    let end = c.in-Ok-false.ensures.turns (ap (λ (k : Bool). Ok k) c.in-Ok-false.field-0-test) in
    record {
      reads = omega (arith, end.0, c.loop-turn.invariant.reads);
      most = omega (arith, c.in-Ok-false.ensures.reads, c.loop-turn.invariant.most);
      failed = c.in-Ok-false.ensures.calm ∙ c.loop-turn.invariant.failed;
      ends = end.1 ∙ c.loop-turn.invariant.ends;
      heard = listening_more _ (g.R.Source.seen c.loop-turn.reader) (g.R.Source.seen c.turn.new.reader) c.loop-turn.feed c.turn.new.feed
          c.loop-turn.listener c.turn.new.listener t more;
    }

pub returns-in-Ok-true-clause-learnt : goal.returns-in-Ok-true-clause-learnt
returns-in-Ok-true-clause-learnt g c =
    let t = c.loop-turn.invariant.heard in
    let end = rw c.in-Ok-true.field-0-test at (c.in-Ok-true.ensures.heard t.bytes t.items t.listening) in
    let laws : AreLaws = record { one = c.one_verdict.ensures.one; refused = c.one_verdict.ensures.refused; items = c.one_verdict.ensures.items } in
    learnt (g.R.Source.seen c.args.reader.now) (g.R.Source.seen c.loop-turn.reader) (g.R.Source.seen c.turn.new.reader) c.turn.new.feed
    c.turn.new.listener laws t end (grew_since _ _ _ c.loop-turn.invariant.ends) c.answer.ensures

pub returns-in-Ok-true-clause-faults : goal.returns-in-Ok-true-clause-faults
returns-in-Ok-true-clause-faults g c = no_fault _ c.answer.result (g.R.Source.seen c.args.reader.now) (g.R.Source.seen c.turn.new.reader) c.answer.ensures
    (c.in-Ok-true.ensures.calm ∙ c.loop-turn.invariant.failed)

pub returns-in-Err-clause-learnt : goal.returns-in-Err-clause-learnt
returns-in-Err-clause-learnt g c =
    let t = c.loop-turn.invariant.heard in
    fault_of_turn (g.R.Source.seen c.args.reader.now) (g.R.Source.seen c.loop-turn.reader) (g.R.Source.seen c.turn.new.reader) c.loop-turn.feed
    c.turn.new.feed c.loop-turn.listener c.turn.new.listener c.in-Err.fault t
    (c.in-Err.ensures.heard t.bytes t.items t.listening)

pub returns-in-Err-clause-faults : goal.returns-in-Err-clause-faults
returns-in-Err-clause-faults g c = read_failed c.in-Err.fault (g.R.Source.seen c.args.reader.now) (g.R.Source.seen c.turn.new.reader) c.in-Err.ensures.fault.0
    (grew_since _ _ _ c.loop-turn.invariant.failed c.in-Err.ensures.fault.1)

pub returns-clause-learnt : goal.returns-clause-learnt
returns-clause-learnt g c =
    let t = c.loop-turn.invariant.heard in
    not_learnt (g.R.Source.seen c.args.reader.now) (g.R.Source.seen c.loop-turn.reader) t.bytes fault.Turns t.consumed

pub returns-clause-faults : goal.returns-clause-faults
returns-clause-faults g c = (omega (arith, c.loop-turn.invariant.reads, c.loop-turn.auto._turn-end), c.loop-turn.invariant.ends)

pub returns-in_default-clause-learnt : goal.returns-in_default-clause-learnt
returns-in_default-clause-learnt g c = not_learnt (g.R.Source.seen c.args.reader.now) (g.R.Source.seen c.args.reader.now) [] fault.Memory (Consumes-nil _)

pub returns-in-Ok-true-clause-needed : goal.returns-in-Ok-true-clause-needed
returns-in-Ok-true-clause-needed g c = (
  c.loop-turn.reader,
  waits _ _ c.loop-turn.feed c.loop-turn.listener c.one_verdict.ensures.one
      c.loop-turn.invariant.heard,
  c.in-Ok-true.ensures.reads,
)

pub returns-in-Err-clause-needed : goal.returns-in-Err-clause-needed
returns-in-Err-clause-needed g c = (
  c.loop-turn.reader,
  waits _ _ c.loop-turn.feed c.loop-turn.listener c.one_verdict.ensures.one
      c.loop-turn.invariant.heard,
  c.in-Err.ensures.reads,
)

pub returns-clause-needed : goal.returns-clause-needed
returns-clause-needed g c = (
  c.loop-turn.reader,
  waits _ _ c.loop-turn.feed c.loop-turn.listener c.one_verdict.ensures.one c.loop-turn.invariant.heard,
  omega arith,
)

pub returns-in_default-clause-needed : goal.returns-in_default-clause-needed
returns-in_default-clause-needed g c = (c.args.reader.now, nothing_read _ c.one_verdict.ensures.one, omega arith)
