use Rattle.std.proofs.Common.{subst}
use Rattle.bt_flow.specs.Memory as ring
use Rattle.bt_flow.specs.Pages.{byte_of}
use Rattle.bt_flow.specs.Views.{HandsOut}
use Rattle.bt_flow.specs.Wide.{either_of, next_of, seen}
use Rattle.bt_flow.proofs.WideProofs.{none_after, far_taken}
use Rattle.bt_flow.proofs.WideCalls.{emptied}
use Rattle.bt_flow.proofs.wide.WideWindow.take_far.Goals as goal

pub drain-requires : goal.drain-requires
drain-requires c =
    let w = c.args.self.now.window in
    let after = c.put_through.new.self in
    let e = emptied w c.next-next.result c.args.later.now.items c.in_ok-put_through.field-0 (ring.next_of after.window) (ring.seen after.window)
    c.put_through.new.later.items c.next-next.ensures c.in_ok-put_through.ensures.put in
    record {
      none = none_after (ring.next_of w) _ w e.1.more (ring.next_of after.window) (ring.seen after.window) e.1.taken;
      held = c.in_ok-put_through.ensures.held e.0;
    }

pub returns-clause-taken : goal.returns-clause-taken
returns-clause-taken c =
    let w = c.args.self.now.window in
    let after = c.put_through.new.self in
    let e = emptied w c.next-next.result c.args.later.now.items c.in_ok-put_through.field-0 (ring.next_of after.window) (ring.seen after.window)
    c.put_through.new.later.items c.next-next.ensures c.in_ok-put_through.ensures.put in
    far_taken c.args.at c.args.part.now w (byte_of c.args.self.now.far.pages) (byte_of c.keep.new.self.pages) c.args.later.now.items
    (ring.next_of after.window) (ring.seen after.window) c.put_through.new.later.items (next_of c.drain.new.self) (seen c.drain.new.self)
    c.drain.new.later.items c.in_ok-keep.ensures c.requires.near e.1
    (subst (λ f. HandsOut (next_of after) (either_of (ring.seen after.window) (byte_of f.pages) (next_of after)) c.put_through.new.later.items
    (next_of c.drain.new.self) (seen c.drain.new.self) c.drain.new.later.items) c.in_ok-put_through.ensures.far c.in_ok-drain.ensures.drained)
