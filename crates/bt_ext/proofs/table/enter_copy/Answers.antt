use Rattle.std.proofs.Common.{◌≤◌, ℕ, List, length, ◌∙◌, Some, None, subst, arith}
use Rattle.bt_ext.specs.Tables.{Entries}
use Rattle.bt_ext.specs.Holding.{HoldsAt}
use Rattle.bt_ext.proofs.Entries.{remove-at, replace-at, stays_absent}
use Rattle.bt_ext.proofs.table.enter_copy.Goals.{then-id-gt0+else-len-lt-MAX_NAMES, else-id-gt0}
use Rattle.bt_ext.proofs.table.enter_copy.Goals as goal

pub returns-in-Some-clause-items : goal.returns-in-Some-clause-items
returns-in-Some-clause-items g c =
    let name = c.args.name in
    let here = subst (λ (es : Entries). HoldsAt c.as_slice-2.result.now es (Some c.in-Some.i)) c.deref.ensures.value c.in-Some.ensures in
    let holds = subst (λ (n : List ℕ). HoldsAt n c.args.entries.now.items (Some c.in-Some.i)) c.as_slice-2.ensures here in
    let short = subst (λ (n : List ℕ). length n ≤ 255) c.as_slice.ensures (omega arith) in
    c.remove.ensures.items ∙ remove-at name c.args.id c.args.entries.now.items c.in-Some.i c.remove.result short c.if-id-eq0.true holds
    c.remove.ensures.value

pub returns-in-Some-2-clause-items : goal.returns-in-Some-2-clause-items
returns-in-Some-2-clause-items g c =
    let name = c.args.name in
    let here = subst (λ (es : Entries). HoldsAt c.as_slice-2.result.now es (Some c.in-Some.i)) c.deref.ensures.value c.in-Some.ensures in
    let holds = subst (λ (n : List ℕ). HoldsAt n c.args.entries.now.items (Some c.in-Some.i)) c.as_slice-2.ensures here in
    let short = subst (λ (n : List ℕ). length n ≤ 255) c.as_slice.ensures (omega arith) in
    replace-at name c.args.id c.args.entries.now.items c.in-Some.i c.index_mut.result.now short c.if-id-eq0.false holds
    c.index_mut.ensures.value

pub returns-clause-items : goal.returns-clause-items
returns-clause-items g c =
    let here = subst (λ (es : Entries). HoldsAt c.as_slice-2.result.now es None) c.deref.ensures.value c.in-None.ensures in
    let none = subst (λ (n : List ℕ). HoldsAt n c.args.entries.now.items None) c.as_slice-2.ensures here in
    stays_absent c.args.name c.args.id c.args.entries.now.items none (λ on few. elim c.if-id-gt0.branch [
      | then-id-gt0+else-len-lt-MAX_NAMES w ↦ omega (arith, w.if-len-lt-MAX_NAMES, w.len.ensures, c.args.entries.now.ok.0)
      | else-id-gt0 w ↦ omega (arith, w.if-id-gt0)
    ])
