use Rattle.std.proofs.Common.{ℕ, List, Some, length, sym, ap, subst, arith}
use Rattle.std.proofs.lemmas.List.{length-drop}
use Rattle.bt_ext.specs.Faults.{Reads, Refuses}
use Rattle.bt_ext.specs.Payloads.{seen}
use Rattle.bt_wire.specs.declared.fault.Refused.{Refused}
use Rattle.bt_wire.specs.Faults.{said_ext_id, IsFault}
use Rattle.bt_wire.proofs.ExtLaws.{refused_within}
use Rattle.bt_wire.proofs.WindowLaws.{extended_read, index_found, payload_fault}
use Rattle.bt_wire.proofs.decode.view_extended.Goals as goal

pub placed-requires : goal.placed-requires
placed-requires c =
    let le = refused_within _ _ _ _ _ c.in-Err.ensures.err in
    omega (arith, le, ap length c.suffix.ensures, length-drop 6 c.args.window.now, c.requires.long)

pub returns-in-None-clause-ok : goal.returns-in-None-clause-ok
returns-in-None-clause-ok c =
    let P : List ℕ → Type 0 = λ p. Reads c.args.context.now.reg c.args.context.now.rules (said_ext_id c.args.window.now) p (seen c.in-Ok.view) in
    extended_read _ _ _ (seen c.in-Ok.view) (λ i. omega (arith, c.type_inv.window i)) c.requires.whole c.requires.long c.requires.id
    (subst P c.suffix.ensures c.in-Ok.ensures.ok) (sym c.in-None.ensures)

pub returns-in-Some-clause-err : goal.returns-in-Some-clause-err
returns-in-Some-clause-err c =
    let P : List ℕ → Type 0 = λ p. Reads c.args.context.now.reg c.args.context.now.rules (said_ext_id c.args.window.now) p (seen c.in-Ok.view) in
    index_found _ _ _ (seen c.in-Ok.view) _ c.requires.whole (omega (arith, c.requires.long)) c.requires.id (subst P c.suffix.ensures c.in-Ok.ensures.ok)
    (sym c.in-Some.ensures)

pub returns-in-Err-clause-err : goal.returns-in-Err-clause-err
returns-in-Err-clause-err c =
    let P : List ℕ → Type 0 = λ p. Refuses c.args.context.now.reg c.args.context.now.rules (said_ext_id c.args.window.now) p c.in-Err.fault in
    let Q : Refused → Type 0 = λ f. IsFault c.args.context.now c.args._order 0 c.args.window.now (Some f) in
    subst Q (sym c.placed.ensures) (payload_fault _ _ _ c.in-Err.fault c.requires.whole (omega (arith, c.requires.long)) c.requires.id
    (subst P c.suffix.ensures c.in-Err.ensures.err))
