use Rattle.std.proofs.Common.{Some, ap, subst, sym, ◌∙◌}
use Rattle.bt_ext.specs.Tables.{Entries, id_of_name}
use Rattle.bt_ext.specs.Holding.{HoldsAt}
use Rattle.bt_ext.proofs.Entries.{id_at, above}
use Rattle.bt_ext.proofs.table.Table.id_of.Goals as goal

pub returns-clause-value : goal.returns-clause-value
returns-clause-value g c =
    let name = c.args.name.now in
    let holds = subst (λ (es : Entries). HoldsAt name es (Some c.in_ok-i.i)) c.deref.ensures.value c.in_ok-i.ensures in
    id_at name c.self.inside.entries.items c.in_ok-i.i c.index.result.now holds c.index.ensures ∙ ap (id_of_name name) c.self.view_is

pub returns-clause-above : goal.returns-clause-above
returns-clause-above g c =
    let name = c.args.name.now in
    let holds = subst (λ (es : Entries). HoldsAt name es (Some c.in_ok-i.i)) c.deref.ensures.value c.in_ok-i.ensures in
    let is = id_at name c.self.inside.entries.items c.in_ok-i.i c.index.result.now holds c.index.ensures in
    rw (sym is) at (above name c.self.inside.entries.items c.self.invariant.entries)
