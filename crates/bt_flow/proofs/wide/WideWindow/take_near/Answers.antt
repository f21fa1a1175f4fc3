use Rattle.std.proofs.Common.{subst}
use Rattle.bt_flow.specs.Memory as ring
use Rattle.bt_flow.specs.Pages.{byte_of}
use Rattle.bt_flow.specs.Views.{Takes}
use Rattle.bt_flow.specs.Wide.{next_of, seen}
use Rattle.bt_flow.proofs.WideProofs.{none_after, near_taken}
use Rattle.bt_flow.proofs.wide.WideWindow.take_near.Goals as goal

pub drain-requires-clause-none : goal.drain-requires-clause-none
drain-requires-clause-none c =
    let w = c.args.self.now.window in
    let t = subst (λ o. Takes c.args.at c.args.part.now (ring.next_of w) (ring.seen w) c.args.later.now.items o (ring.next_of c.take.new.self)
    (ring.seen c.take.new.self) c.take.new.later.items) c.in-Some.is c.in_ok-fresh.ensures.taken in
    none_after c.args.at c.args.part.now w _ (ring.next_of c.take.new.self) (ring.seen c.take.new.self) t.more

pub returns-in_ok-drain-in-Some-clause-taken : goal.returns-in_ok-drain-in-Some-clause-taken
returns-in_ok-drain-in-Some-clause-taken c =
    let w = c.args.self.now.window in
    let t = subst (λ o. Takes c.args.at c.args.part.now (ring.next_of w) (ring.seen w) c.args.later.now.items o (ring.next_of c.take.new.self)
    (ring.seen c.take.new.self) c.take.new.later.items) c.in-Some.is c.in_ok-fresh.ensures.taken in
    near_taken c.args.at c.args.part.now w (byte_of c.args.self.now.far.pages) c.in-Some.fresh.now c.args.later.now.items (ring.next_of c.take.new.self)
    (ring.seen c.take.new.self) c.take.new.later.items (next_of c.drain.new.self) (seen c.drain.new.self) c.drain.new.later.items c.requires.apart t
    c.in_ok-drain-in-Some.ensures.drained
