use Rattle.std.proofs.Common.{Some, None, ap, arith, sym, ◌∙◌, cond}
use Rattle.bt_utp.specs.Entries.{entry_at}
use Rattle.bt_utp.proofs.Entering.{key_is, replaced}
use Rattle.bt_utp.proofs.entries.Entries.put.Goals as goal

pub overflow_sub-self : goal.overflow_sub-self
overflow_sub-self c =
    let e = c.in_ok-old.ensures in
    let k = c.args.entry.connection in
    let l = replaced (k.initiator, k.acceptor, k.id) c.args.entry c.args.self.now.map.entries c.insert.new.self.entries (Some c.in-Some.old) e.was_ordered
    (sym c.in-Some.is ∙ e.old) e.entries c.requires in
    omega (arith, l, c.counted.ensures.is, c.args.self.now.sums)

pub invariant_of-self-in-Some : goal.invariant_of-self-in-Some
invariant_of-self-in-Some c =
    let e = c.in_ok-old.ensures in
    let k = c.args.entry.connection in
    let l = replaced (k.initiator, k.acceptor, k.id) c.args.entry c.args.self.now.map.entries c.insert.new.self.entries (Some c.in-Some.old) e.was_ordered
    (sym c.in-Some.is ∙ e.old) e.entries c.requires in
    record { sums = omega (arith, l, c.counted.ensures.is, c.args.self.now.sums); bound = omega arith }

pub invariant_of-self-in_default : goal.invariant_of-self-in_default
invariant_of-self-in_default c =
    let e = c.in_ok-old.ensures in
    let k = c.args.entry.connection in
    let l = replaced (k.initiator, k.acceptor, k.id) c.args.entry c.args.self.now.map.entries c.insert.new.self.entries None e.was_ordered
    (sym c.in_default.is ∙ e.old) e.entries c.requires in
    record { sums = omega (arith, l, c.args.self.now.sums); bound = c.args.self.now.bound }

pub returns-in-Some-clause-ok : goal.returns-in-Some-clause-ok
returns-in-Some-clause-ok c x y i =
    let k = c.args.entry.connection in
    c.in_ok-old.ensures.updates.0 (x, y, i)
    ∙ ap (λ t. cond t (Some c.args.entry) (entry_at c.args.self.now x y i)) (key_is k.initiator k.acceptor k.id x y i)

pub returns-in_default-clause-ok : goal.returns-in_default-clause-ok
returns-in_default-clause-ok c x y i =
    let k = c.args.entry.connection in
    c.in_ok-old.ensures.updates.0 (x, y, i)
    ∙ ap (λ t. cond t (Some c.args.entry) (entry_at c.args.self.now x y i)) (key_is k.initiator k.acceptor k.id x y i)
