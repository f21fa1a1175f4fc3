use Rattle.bt_flow.specs.Memory as ring
use Rattle.bt_flow.specs.Pages.{byte_of}
use Rattle.bt_flow.specs.Wide.{next_of, seen}
use Rattle.bt_flow.proofs.WideProofs.{either_none, hole_passed, none_passed}
use Rattle.bt_flow.proofs.wide.WideWindow.pass.Goals as goal

pub pass-requires-clause-none : goal.pass-requires-clause-none
pass-requires-clause-none c = λ k h. (either_none (ring.seen c.args.self.now.window k) _ (c.requires.none k h)).0

pub drain-requires-clause-none : goal.drain-requires-clause-none
drain-requires-clause-none c = none_passed c.args.count c.args.self.now.window c.args.later.now.items (ring.next_of c.pass.new.self)
    (ring.seen c.pass.new.self) c.pass.new.later.items c.in_ok-pass.ensures.passed

pub returns-clause-passed : goal.returns-clause-passed
returns-clause-passed c = hole_passed c.args.count c.args.self.now.window (byte_of c.args.self.now.far.pages) c.args.later.now.items
    (ring.next_of c.pass.new.self) (ring.seen c.pass.new.self) c.pass.new.later.items (next_of c.drain.new.self) (seen c.drain.new.self)
    c.drain.new.later.items c.requires.none c.in_ok-pass.ensures.passed c.in_ok-drain.ensures.drained
