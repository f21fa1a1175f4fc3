use Rattle.std.proofs.Common.{drop, subst, sym}
use Rattle.bt_bencode.specs.Disorders.{RefusesSorted}
use Rattle.bt_bencode.proofs.Payloads.{split_at}
use Rattle.bt_ext.proofs.Disordered.{refused}
use Rattle.bt_ext.proofs.view.disorder_fault.Goals as goal

pub returns-in-Order : goal.returns-in-Order
returns-in-Order c =
    let h = subst (RefusesSorted c.args.payload.now) c.in-Order.is c.requires.disordered in
    let b = h.0 in
    let order = h.1 b.0 b.1 b.2 in
    refused c.args.reg c.args.id c.args.payload.now (drop b.1 c.args.payload.now) b.0 c.in-Order.at c.requires.needed b.2.spells.fits
    (sym (split_at c.args.payload.now b.0 b.1 b.2)) order
