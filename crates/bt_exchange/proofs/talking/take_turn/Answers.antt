use Rattle.bt_exchange.proofs.Moves.{IsGiven, listened_turned, not_busy}
use Rattle.bt_exchange.proofs.Steps.{exact_turned}
use Rattle.bt_exchange.proofs.talking.take_turn.Given.{Over}
use Rattle.bt_exchange.proofs.talking.take_turn.Goals.{After-pass_item}
use Rattle.bt_exchange.proofs.talking.take_turn.Goals as goal

is_given : (g : Over) (c : After-pass_item g) → IsGiven c.args.hearing.now c.pass_item.new.self c.bytes.result.now c.args.end.now c.receive-n.new.self
    c.next_event-turned.new.end c.next_event-turned.result c.receive-n.result
is_given g c = record {
  limit = c.requires.feed.limit;
  room = c.requires.room;
  some = c.requires.pending;
  is = c.bytes.ensures;
  taken = c.receive-n.ensures.taken;
  within = c.receive-n.ensures.in_range;
  fed = c.receive-n.ensures.end;
  rest = c.pass_item.ensures;
  turned = c.next_event-turned.ensures;
}

pub turn_step-requires : goal.turn_step-requires
turn_step-requires g c = λ e. not_busy c.args.end.now c.receive-n.new.self c.next_event-turned.new.end c.bytes.result.now c.next_event-turned.result c.requires.room
    c.receive-n.ensures.end c.next_event-turned.ensures e

pub returns-clause-listened : goal.returns-clause-listened
returns-clause-listened g c = λ seen. listened_turned seen c.turn_step.ensures
    (is_given g (goal.at.returns-clause-listened g c).After-pass_item)

pub returns-clause-exact : goal.returns-clause-exact
returns-clause-exact g c = λ seen prompt sent. exact_turned prompt seen c.turn_step.ensures sent
    (is_given g (goal.at.returns-clause-exact g c).After-pass_item)
