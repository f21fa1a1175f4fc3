use Rattle.std.proofs.Common.{Some, None, ap, arith, ◌∙◌, cond}
use Rattle.bt_utp.specs.Entries.{entry_at}
use Rattle.bt_utp.proofs.Entering.{key_is, removed}
use Rattle.bt_utp.proofs.entries.Entries.remove.Goals as goal

pub overflow_sub-self : goal.overflow_sub-self
overflow_sub-self c =
    let k = c.args.connection.now in
    let l = removed (k.initiator, k.acceptor, k.id) c.args.self.now.map.entries c.remove.new.self.entries (Some c.in-Some.old)
    c.in-Some.ensures.value c.in-Some.ensures.entries in
    omega (arith, l, c.counted.ensures.is, c.args.self.now.sums)

pub invariant_of-self : goal.invariant_of-self
invariant_of-self c =
    let k = c.args.connection.now in
    let l = removed (k.initiator, k.acceptor, k.id) c.args.self.now.map.entries c.remove.new.self.entries (Some c.in-Some.old)
    c.in-Some.ensures.value c.in-Some.ensures.entries in
    record { sums = omega (arith, l, c.counted.ensures.is, c.args.self.now.sums); bound = omega arith }

pub returns-in-Some-clause-gone : goal.returns-in-Some-clause-gone
returns-in-Some-clause-gone c x y i =
    let k = c.args.connection.now in
    c.in-Some.ensures.updates.0 (x, y, i) ∙ ap (λ t. cond t None (entry_at c.args.self.now x y i)) (key_is k.initiator k.acceptor k.id x y i)
