use Rattle.std.proofs.Common.{◌≡◌, ◌<◌, ◌∙◌, ℕ, List, length, get_or, subst}
use Rattle.bt_ext.specs.Tables.{Entries}
use Rattle.bt_ext.specs.Holding.{names_of, AddsName}
use Rattle.bt_ext.proofs.Known.{names-more}
use Rattle.bt_ext.proofs.table.Table.names.Goals as goal

pub loop-name-preserved : goal.loop-name-preserved
loop-name-preserved g c =
    let same = c.deref-name-items.ensures.value ∙ c.self.view_is in
    let i : ℕ = c.loop-name.name-index in
    let e : List ℕ × ℕ = c.loop-name-item.result in
    let old = names_of c.loop-name.names in
    let new = names_of c.add_name.new.names in
    names-more old new c.args.self.now i e (subst (λ (es : Entries). i < length es) same c.loop-name-test.true)
    (subst (λ (es : Entries). e ≡ get_or es i e) same c.loop-name-item.is)
    (subst (λ (n : List ℕ). AddsName n old new) c.as_slice.ensures c.in_ok-add_name.ensures.adds) c.loop-name.invariant
