use Rattle.std.proofs.Common.{◌∙◌, sym, ap, length, arith}
use Rattle.bt_ext.specs.Holding.{names_of}
use Rattle.bt_ext.proofs.Known.{kept, names-entered}
use Rattle.bt_ext.proofs.Names.{known}
use Rattle.bt_ext.proofs.table.Table.enter_known.Goals as goal

pub returns-then-id-eq0-clause-ok : goal.returns-then-id-eq0-clause-ok
returns-then-id-eq0-clause-ok g c =
    let new = sym (known c.args.name c.args.names.now.keys) ∙ sym c.contains.ensures ∙ c.if-not-contains.true in
    kept (names_of c.args.names.now) c.args.name.now c.args.id c.args.self.now c.requires new (λ on few. omega arith)

pub returns-then-len-ge-MAX_NAMES-clause-ok : goal.returns-then-len-ge-MAX_NAMES-clause-ok
returns-then-len-ge-MAX_NAMES-clause-ok g c =
    let new = sym (known c.args.name c.args.names.now.keys) ∙ sym c.contains.ensures ∙ c.if-not-contains.true in
    let same = ap length c.self.view_is in
    kept (names_of c.args.names.now) c.args.name.now c.args.id c.args.self.now c.requires new (λ on few. omega (arith, same))

pub returns-clause-names : goal.returns-clause-names
returns-clause-names g c =
    rw c.in_ok-enter.ensures.ok (names-entered (names_of c.args.names.now) (names_of c.add_name.new.names) c.args.name.now c.args.id c.args.self.now
    c.in_ok-add_name.ensures.adds c.requires)
