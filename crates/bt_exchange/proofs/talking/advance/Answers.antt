use Rattle.std.proofs.Common.{length, arith}
use Rattle.bt_exchange.proofs.Moves.{IsFilled, listened_filled, room_of}
use Rattle.bt_exchange.proofs.Steps.{exact_filled}
use Rattle.bt_exchange.proofs.talking.advance.Given.{Over}
use Rattle.bt_exchange.proofs.talking.advance.Goals.{After-fill}
use Rattle.bt_exchange.proofs.talking.advance.Goals as goal

is_filled : (g : Over) (c : After-fill g) → IsFilled g.C.Connection.prompt (g.C.Connection.seen c.args.connection.now)
    (g.C.Connection.seen c.fill.new.connection) c.args.hearing.now c.fill.new.self c.fill.result
is_filled g c = record {
  was = grind (arith, c.is_empty.ensures, c.if-not-is_empty.false, c.bytes.ensures);
  fills = c.fill.ensures.bytes;
  count = c.fill.ensures.count;
  counts = c.fill.ensures.counts;
  none = c.fill.ensures.none;
}

pub send-requires : goal.send-requires
send-requires g c = omega (arith, c.sendable-waiting.ensures.most, c.if-waiting-gt0.true)

pub returns-then-waiting-gt0-clause-advanced : goal.returns-then-waiting-gt0-clause-advanced
returns-then-waiting-gt0-clause-advanced g c = c.send.ensures.advanced c.args.hearing.now

pub returns-then-waiting-gt0-clause-exact : goal.returns-then-waiting-gt0-clause-exact
returns-then-waiting-gt0-clause-exact g c = λ m. c.send.ensures.exact c.args.hearing.now

pub returns-then-waiting-gt0-clause-listens : goal.returns-then-waiting-gt0-clause-listens
returns-then-waiting-gt0-clause-listens g c = λ m. absurd (omega (arith, c.sendable-waiting.ensures.none m, c.if-waiting-gt0.true))

pub take_turn-requires-clause-room : goal.take_turn-requires-clause-room
take_turn-requires-clause-room g c = room_of c.args.may_send (length c.args.end.now.outbox) c.sendable-waiting.result c.sendable-waiting.ensures.all c.requires
    (omega (arith, c.if-waiting-gt0.false))

pub returns-then-not-is_empty-clause-advanced : goal.returns-then-not-is_empty-clause-advanced
returns-then-not-is_empty-clause-advanced g c = (c.take_turn.ensures.listened (g.C.Connection.seen c.args.connection.now)).0

pub returns-then-not-is_empty-clause-exact : goal.returns-then-not-is_empty-clause-exact
returns-then-not-is_empty-clause-exact g c = λ m. c.take_turn.ensures.exact (g.C.Connection.seen c.args.connection.now) g.C.Connection.prompt
    (omega (arith, c.sendable-waiting.ensures.all m, c.if-waiting-gt0.false))

pub returns-then-not-is_empty-clause-listens : goal.returns-then-not-is_empty-clause-listens
returns-then-not-is_empty-clause-listens g c = λ m. c.take_turn.ensures.listened (g.C.Connection.seen c.args.connection.now)

pub returns-clause-advanced : goal.returns-clause-advanced
returns-clause-advanced g c = (listened_filled g.C.Connection.prompt _ _ _ _ _ _ c.read_step.result c.read_step.ensures
    (is_filled g (goal.at.returns-clause-advanced g c).After-fill)).0

pub returns-clause-exact : goal.returns-clause-exact
returns-clause-exact g c = λ m. exact_filled g.C.Connection.prompt _ _ _ _ _ _ c.read_step.result c.read_step.ensures
    (omega (arith, c.sendable-waiting.ensures.all m, c.if-waiting-gt0.false)) (is_filled g (goal.at.returns-clause-exact g c).After-fill)

pub returns-clause-listens : goal.returns-clause-listens
returns-clause-listens g c = λ m. listened_filled g.C.Connection.prompt _ _ _ _ _ _ c.read_step.result c.read_step.ensures
    (is_filled g (goal.at.returns-clause-listens g c).After-fill)
