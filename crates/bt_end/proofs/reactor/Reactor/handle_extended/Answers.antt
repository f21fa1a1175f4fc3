use Rattle.bt_bencode.specs.Views.{tree_of}
use Rattle.bt_bencode.specs.declared.tree.Value.TheVariants as value
use Rattle.bt_end.proofs.EventLaws.{learn_reacted}
use Rattle.bt_end.proofs.reactor.Reactor.handle_extended.Goals as goal

pub returns-in-Learn-clause-reacted : goal.returns-in-Learn-clause-reacted
returns-in-Learn-clause-reacted g c =
    let lesson = rw (c.in-Handshake.is, c.in-Learn.is) at c.requires.plan in
    rw c.in-Handshake.is (learn_reacted _ c.learn.new.self _ (tree_of (value.Dict c.in-Handshake.dict.tree.0)) c.in-Learn.update c.in-Learn.size c.in-Learn.assembly c.learn.ensures.end c.learn.ensures.outbox lesson
    c.ask.ensures)
