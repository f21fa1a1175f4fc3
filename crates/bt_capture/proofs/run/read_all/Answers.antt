use Rattle.std.proofs.Common.{Option, Ok, refl, ap, subst, arith}
use Rattle.std.proofs.lemmas.Result.{err_from_is_err_and}
use Rattle.bt_capture.specs.Ends.{IsTurn}
use Rattle.bt_capture.specs.declared.packets.FileEnd.{FileEnd}
use Rattle.bt_capture.proofs.Outcomes.{counts_turn, turned}
use Rattle.bt_capture.proofs.Seeing.{gone_on, to_end_on, why_on}
use Rattle.bt_capture.proofs.run.read_all.Goals as goal

pub loop-turn-init : goal.loop-turn-init
loop-turn-init g c = record { told = λ o i. i; turns = λ o i. omega arith; gone = (refl, refl) }

pub loop-turn-preserved : goal.loop-turn-preserved
loop-turn-preserved g c =
    let now = g.R.Source.seen c.loop-turn.reader in
    let after = g.R.Source.seen c.turn.new.reader in
    let P : Option FileEnd → Type 0 = λ o. IsTurn (Ok o) c.turn.new.packets now after in
    record {
      told = λ o i. c.in_ok-end.ensures.after o (c.loop-turn.invariant.told o i);
      turns = λ o i.
          let t = c.loop-turn.invariant.told o i in
          counts_turn o (g.R.Source.seen c.loop-turn.reader).left t.packets c.loop-turn.packets c.turn.new.packets c.loop-turn._turn t.read
          (c.in_ok-end.ensures.advances (ap (λ (e : Option FileEnd). Ok e) c.in_default.is)) (omega arith) (c.loop-turn.invariant.turns o i);
      gone = gone_on (g.R.Source.seen c.args.reader.now) now after c.loop-turn.invariant.gone (subst P c.in_default.is c.in_ok-end.ensures.turn);
    }

pub returns-in-Some-clause-after : goal.returns-in-Some-clause-after
returns-in-Some-clause-after g c o i = c.in_ok-end.ensures.after o (c.loop-turn.invariant.told o i)

pub returns-in_err-end-clause-after : goal.returns-in_err-end-clause-after
returns-in_err-end-clause-after g c o i =
    let stop = err_from_is_err_and c.from_residual.result c.from_residual.ensures.1 in
    rw (stop.1, stop.2) (c.in_err-end.ensures.after o (c.loop-turn.invariant.told o i))

pub returns-clause-after : goal.returns-clause-after
returns-clause-after g c o i =
    turned o (g.R.Source.seen c.loop-turn.reader).left (g.W.Target.seen c.loop-turn.writer) c.loop-turn.run.connections.table c.loop-turn.run
    c.loop-turn.packets (c.loop-turn.invariant.told o i) (omega (arith, c.loop-turn.invariant.turns o i, c.loop-turn.auto._turn-end))

pub returns-in-Some-clause-all : goal.returns-in-Some-clause-all
returns-in-Some-clause-all g c =
    let now = g.R.Source.seen c.loop-turn.reader in
    let after = g.R.Source.seen c.turn.new.reader in
    let P : Option FileEnd → Type 0 = λ o. IsTurn (Ok o) c.turn.new.packets now after in
    to_end_on (Ok c.in-Some.end) c.turn.new.packets (g.R.Source.seen c.args.reader.now) now after c.loop-turn.invariant.gone
    (subst P c.in-Some.is c.in_ok-end.ensures.turn)

pub returns-in_err-end-clause-all : goal.returns-in_err-end-clause-all
returns-in_err-end-clause-all g c =
    let stop = err_from_is_err_and c.from_residual.result c.from_residual.ensures.1 in
    rw (stop.1, stop.2) (why_on _ c.turn.new.packets (g.R.Source.seen c.args.reader.now) (g.R.Source.seen c.loop-turn.reader)
    (g.R.Source.seen c.turn.new.reader) c.loop-turn.invariant.gone c.in_err-end.ensures.turn)
