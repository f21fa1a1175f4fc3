use Rattle.std.proofs.Common.{subst}
use Rattle.bt_tcp.specs.Rings.{ahead}
use Rattle.bt_tcp.specs.Windows.{TakesAny}
use Rattle.bt_flow.specs.Memory.{next_of, seen}
use Rattle.bt_flow.proofs.Windows.{passes_in}
use Rattle.bt_flow.proofs.window.Window.pass.Goals as goal

pub returns-clause-passed : goal.returns-clause-passed
returns-clause-passed c =
    let w = c.args.self.now in
    let ring = c.skip.new.self in
    let one = subst (λ k. TakesAny c.args.count w.ring.next (ahead w.ring k c.deref-2.result.now) ring.next (ahead ring k c.deref-2.result.now))
    c.deref.ensures.value c.skip.ensures.taken in
    let both = subst (λ b. TakesAny c.args.count w.ring.next (ahead w.ring w.known.items b) ring.next (ahead ring w.known.items b)) c.deref-2.ensures.value one in
    passes_in c.args.count (next_of w) (seen w) ring.next (ahead ring w.known.items w.ahead.items) c.args.later.now.items (next_of c.drain.new.self)
    (seen c.drain.new.self) c.drain.new.later.items (next_of c.release.new.self) (seen c.release.new.self) c.skip.ensures.skipped.next_is both
    c.in_ok-drain.ensures c.release.ensures.next c.release.ensures.same
