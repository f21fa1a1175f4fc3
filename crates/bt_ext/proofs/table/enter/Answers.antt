use Rattle.std.proofs.Common.{◌∙◌, Some, None, subst, arith, rules}
use Rattle.bt_ext.specs.Tables.{Entries}
use Rattle.bt_ext.specs.Holding.{HoldsAt}
use Rattle.bt_ext.proofs.Entries.{remove-at, replace-at, keep-absent}
use Rattle.bt_ext.proofs.table.enter.Goals as goal

pub returns-in-Some-clause-ok : goal.returns-in-Some-clause-ok
returns-in-Some-clause-ok g c =
    let holds = subst (λ (es : Entries). HoldsAt c.args.name.now es (Some c.in-Some.i)) c.deref.ensures.value c.in-Some.ensures in
    c.remove.ensures.items ∙ remove-at c.args.name.now c.args.id c.args.entries.now.items c.in-Some.i c.remove.result (omega arith) c.if-id-eq0.true holds
    c.remove.ensures.value

pub returns-in-Some-2-clause-ok : goal.returns-in-Some-2-clause-ok
returns-in-Some-2-clause-ok g c =
    let holds = subst (λ (es : Entries). HoldsAt c.args.name.now es (Some c.in-Some.i)) c.deref.ensures.value c.in-Some.ensures in
    replace-at c.args.name.now c.args.id c.args.entries.now.items c.in-Some.i c.index_mut.result.now (omega arith) c.if-id-eq0.false holds
    c.index_mut.ensures.value

pub returns-else-id-ne0-clause-ok : goal.returns-else-id-ne0-clause-ok
returns-else-id-ne0-clause-ok g c =
    let none = subst (λ (es : Entries). HoldsAt c.args.name.now es None) c.deref.ensures.value c.in-None.ensures in
    keep-absent c.args.name.now c.args.id c.args.entries.now.items (omega arith) (omega arith) none

pub returns-in_ok-push_entry-in-None-clause-ok : goal.returns-in_ok-push_entry-in-None-clause-ok
returns-in_ok-push_entry-in-None-clause-ok g c = search rules

pub returns-else-len-lt-MAX_NAMES-clause-ok : goal.returns-else-len-lt-MAX_NAMES-clause-ok
returns-else-len-lt-MAX_NAMES-clause-ok g c = search rules
