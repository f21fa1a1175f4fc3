use Rattle.std.proofs.Common.{subst, ap, ◌∙◌}
use Rattle.bt_ext.specs.Tables.{Entries, IsTable, entered_all}
use Rattle.bt_ext.specs.Holding.{entries_of}
use Rattle.bt_ext.specs.Updates.{IsChange}
use Rattle.bt_ext.proofs.ByName.{table-all}
use Rattle.bt_ext.proofs.table.Table.prepare_told.Goals as goal

pub returns-clause-update : goal.returns-clause-update
returns-clause-update g c =
    let es = c.args.self.now in
    let told = ap entries_of c.deref.ensures.value ∙ c.in_ok-told.ensures in
    let stays = table-all (entries_of c.deref.result.now) es (subst IsTable c.self.view_is c.self.invariant) in
    record {
      table = subst (λ (xs : Entries). IsTable (entered_all xs es)) told stays;
      change = subst (λ (xs : Entries). IsChange {A = g.row.A.Denot} es (entered_all xs es) c.in_ok-change.change) told c.in_ok-change.ensures;
    }
