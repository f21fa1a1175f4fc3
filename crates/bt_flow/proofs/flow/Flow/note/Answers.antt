use Rattle.std.proofs.Common.{arith}
use Rattle.bt_flow.proofs.Flows.{notes_there, fills_at_first, some_there, some_at_first}
use Rattle.bt_flow.proofs.flow.Flow.note.Goals as goal

pub returns-in-Some-noted-clause-noted : goal.returns-in-Some-noted-clause-noted
returns-in-Some-noted-clause-noted c = notes_there c.args.at c.args.end c.base-base.result c.next-next.result c.args.self.now.stream c.in-Some.stream
    c.args.self.now.noted c.in-Some-noted.noted c.note.new.self c.in-Some.is c.base-base.ensures c.next-next.ensures c.in-Some-noted.is
    c.note.ensures.noted

pub returns-in_ok-noted-in-None-clause-full : goal.returns-in_ok-noted-in-None-clause-full
returns-in_ok-noted-in-None-clause-full c = fills_at_first c.args.at c.args.end c.base-base.result c.next-next.result c.args.self.now.stream c.in-Some.stream
    c.args.self.now.noted c.in_ok-noted-in-None.noted c.note-in-None.new.self c.in-Some.is c.base-base.ensures c.next-next.ensures c.in-None.is
    c.in_ok-noted-in-None.ensures.open c.in_ok-noted-in-None.ensures.none c.note-in-None.ensures.full

pub returns-in-Some-noted-clause-some : goal.returns-in-Some-noted-clause-some
returns-in-Some-noted-clause-some c = some_there c.args.at c.args.end c.base-base.result c.next-next.result c.args.self.now.stream c.in-Some.stream
    c.args.self.now.noted c.in-Some-noted.noted c.note.new.self c.in-Some.is c.base-base.ensures c.next-next.ensures c.in-Some-noted.is (omega arith)
    c.note.ensures.some

pub returns-in_ok-noted-in-None-clause-some : goal.returns-in_ok-noted-in-None-clause-some
returns-in_ok-noted-in-None-clause-some c = some_at_first c.args.at c.args.end c.base-base.result c.next-next.result c.args.self.now.stream c.in-Some.stream
    c.args.self.now.noted c.in_ok-noted-in-None.noted c.note-in-None.new.self c.in-Some.is c.base-base.ensures c.next-next.ensures c.in-None.is
    (omega arith) c.in_ok-noted-in-None.ensures.none c.note-in-None.ensures.some
