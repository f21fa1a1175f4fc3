use Rattle.bt_exchange.proofs.Moves.{IsWritten, advanced_written}
use Rattle.bt_exchange.proofs.Steps.{exact_written}
use Rattle.bt_exchange.proofs.talking.send.Given.{Over}
use Rattle.bt_exchange.proofs.talking.send.Goals.{After-write_step}
use Rattle.bt_exchange.proofs.talking.send.Goals as goal

has_written : (g : Over) (c : After-write_step g) → IsWritten g.C.Connection.prompt (g.C.Connection.seen c.args.connection.now)
    (g.C.Connection.seen c.write-wrote.new.self) c.outgoing.result.now c.args.end.now c.write_step.new.end c.write-wrote.result
has_written g c = record {
  some = c.requires;
  is = c.outgoing.ensures.value;
  half = c.write_step.ensures.end;
  writes = c.write-wrote.ensures.bytes;
  counts = c.write-wrote.ensures.counts;
  none = c.write-wrote.ensures.none;
}

pub returns-clause-advanced : goal.returns-clause-advanced
returns-clause-advanced g c = λ pending. advanced_written g.C.Connection.prompt _ _ pending _ _ _ _ c.write_step.result c.write_step.ensures.step
    (has_written g (goal.at.returns-clause-advanced g c).After-write_step)

pub returns-clause-exact : goal.returns-clause-exact
returns-clause-exact g c = λ pending. exact_written g.C.Connection.prompt _ _ pending _ _ _ _ c.write_step.result c.write_step.ensures.step
    (has_written g (goal.at.returns-clause-exact g c).After-write_step)
