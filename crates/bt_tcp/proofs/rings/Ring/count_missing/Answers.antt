use Rattle.std.proofs.Common.{refl, sym, subst}
use Rattle.std.specs.Prelude.{IsSome}
use Rattle.bt_tcp.proofs.RingProofs.{ring-none, ring-some}
use Rattle.bt_tcp.proofs.rings.Ring.count_missing.Goals as goal

pub returns-clause-none : goal.returns-clause-none
returns-clause-none c = λ k h. ring-none c.args.known.now c.args.bytes.now c.args.self.now.head k (c.count_fresh.ensures.unknown k h)

pub returns-clause-ends : goal.returns-clause-ends
returns-clause-ends c = λ h.
    subst IsSome (sym (ring-some c.args.known.now c.args.bytes.now c.args.self.now.head c.count_fresh.result (c.count_fresh.ensures.ends h))) refl
