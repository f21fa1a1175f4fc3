use Rattle.bt_end.proofs.Asking.{data_reacted}
use Rattle.bt_end.proofs.reactor.Reactor.handle_metadata.Goals as goal

pub returns-in-Data-clause-reacted : goal.returns-in-Data-clause-reacted
returns-in-Data-clause-reacted g c =
    data_reacted c.args.self.now c.take_block-event.new.self c.ask.new.self c.args.kind c.in-Data.piece c.in-Data.total c.args.block.now c.in-Data.is
    c.take_block-event.ensures.end c.take_block-event.ensures.outbox c.ask.ensures
