use Rattle.std.proofs.Common.{sym, ap, subst, ◌∙◌, arith}
use Rattle.bt_exchange.specs.Connections.{Seen}
use Rattle.bt_serve.specs.Guests.{IsParting}
use Rattle.bt_serve.specs.declared.door.Parting.{Parting}
use Rattle.bt_serve.proofs.Services.{moment}
use Rattle.bt_serve.proofs.Tallies.{parting_ended, parting_silent, served_clock}
use Rattle.bt_serve.proofs.guest.Guest.tend.Goals as goal

pub returns-then-is_over-clause-tended : goal.returns-then-is_over-clause-tended
returns-then-is_over-clause-tended g c = λ start k.
    let guest = c.step.new.self in
    let new = moment (g.L.Connection.seen c.now-now.new.self) guest.hearing guest.end in
    let served = served_clock (g.L.Connection.seen c.now-now.new.self) c.now-now.result c.now-now.ensures
    (c.in-Ok-Waited.ensures.stepped start (c.loop-step.invariant.served start k)) in
    subst (λ (p : Parting). IsParting c.args.self.now.patience start new p) (sym c.parting.ensures)
    (parting_silent c.args.self.now.patience start new guest.watch.since guest.tally served c.in-Ok-Waited.ensures.settled
    (omega (
      arith,
      c.is_over.ensures.over c.if-is_over.true,
      ap (λ (x : Seen). x.counts.clock) c.now-now.ensures,
      c.in-Ok-Waited.ensures.patience,
      c.loop-step.invariant.patience,
    )))

pub returns-in-Ok-Waited-clause-tended : goal.returns-in-Ok-Waited-clause-tended
returns-in-Ok-Waited-clause-tended g c = λ start k.
    served_clock (g.L.Connection.seen c.now-now.new.self) c.now-now.result c.now-now.ensures
    (c.in-Ok-Waited.ensures.stepped start (c.loop-step.invariant.served start k))

pub returns-in-Err-clause-tended : goal.returns-in-Err-clause-tended
returns-in-Err-clause-tended g c = λ start k.
    let guest = c.step.new.self in
    let new = moment (g.L.Connection.seen guest.link) guest.hearing guest.end in
    subst (λ (p : Parting). IsParting c.args.self.now.patience start new p) (sym c.parting-in-Err.ensures)
    (parting_ended c.args.self.now.patience start new guest.tally c.in-Err.ending
    (c.in-Err.ensures.stepped start (c.loop-step.invariant.served start k) c.args.self.now.patience) c.in-Err.ensures.settled)

pub loop-step-preserved : goal.loop-step-preserved
loop-step-preserved g c = record {
  served = λ start k. c.in-Ok.ensures.stepped start (c.loop-step.invariant.served start k);
  patience = c.in-Ok.ensures.patience ∙ c.loop-step.invariant.patience;
}
