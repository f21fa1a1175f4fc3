use Rattle.std.proofs.Common.{◌+◌, ◌∙◌, refl, arith}
use Rattle.bt_exchange.proofs.Moves.{moment}
use Rattle.bt_fetch.proofs.Visits.{moved_keeps}
use Rattle.bt_fetch.proofs.Stops.{at_one, no_both, silent_at_one}
use Rattle.bt_fetch.proofs.visit.Visit.step.Goals as goal

pub returns-then-self-eq0-clause-ended : goal.returns-then-self-eq0-clause-ended
returns-then-self-eq0-clause-ended g c = c.stopped.ensures.ended 0 (at_one c.args.end.now) (at_one c.args.end.now) refl (silent_at_one c.args.end.now)

pub returns-then-self-eq0-clause-left : goal.returns-then-self-eq0-clause-left
returns-then-self-eq0-clause-left g c = λ h. absurd (no_both _ h c.stopped.ensures.over)

pub returns-then-self-eq0-clause-patient : goal.returns-then-self-eq0-clause-patient
returns-then-self-eq0-clause-patient g c = λ h. absurd (no_both _ h c.stopped.ensures.none)

pub returns-in-Ok-clause-handshake : goal.returns-in-Ok-clause-handshake
returns-in-Ok-clause-handshake g c = c.act.ensures.handshake ∙ moved_keeps _ _ c.outgoing.ensures.end c.exchange.ensures.exchanged.made.moved

pub returns-in-Err-Rounds-clause-handshake : goal.returns-in-Err-Rounds-clause-handshake
returns-in-Err-Rounds-clause-handshake g c = moved_keeps _ _ c.outgoing.ensures.end c.exchange.ensures.exchanged.made.moved

pub returns-in-Err : goal.returns-in-Err
returns-in-Err g c = record {
  handshake = moved_keeps _ _ c.outgoing.ensures.end c.exchange.ensures.exchanged.made.moved;
  ended = c.stopped-in-Err.ensures.ended (c.args.self.now.talk.watch.since + c.patience-patience.result)
      (moment (g.L.Connection.seen c.args.self.now.line.link) c.args.hearing.now c.args.end.now)
      (moment (g.L.Connection.seen c.exchange.new.connection.link) c.exchange.new.hearing c.exchange.new.end) refl c.in-Err.ensures.exchanged.told;
  spent = omega (arith, c.exchange.ensures.exchanged.calls, c.if-self-eq0.false);
  left = λ h. absurd (no_both _ h c.stopped-in-Err.ensures.over);
  address = refl;
  patient = λ h. absurd (no_both _ h c.stopped-in-Err.ensures.none);
}
