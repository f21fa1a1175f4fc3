use Rattle.std.proofs.Common.{◌≡◌, ℕ, ◌≤◌, ◌-◌, length, sym, ap, ◌∙◌, arith}
use Rattle.bt_ext.specs.declared.ext.Ext.{Ext}
use Rattle.bt_wire.specs.Faults.{said_length, said_id, allows, size_of}
use Rattle.bt_wire.specs.Judged.{dict_length}
use Rattle.bt_wire.specs.declared.message.Message.TheVariants as m
use Rattle.bt_wire.proofs.WindowLaws.{extended_long}
use Rattle.bt_wire.proofs.JudgedLaws.{read_window, read_sized, keep_alive_is, plain_is, extended_is}
use Rattle.bt_wire.proofs.decode.view_judged.Goals as goal

-- the id that a call gave
plain : (n k : ℕ) → n ≡ k → (n ≡ 20 → ⊥) → k ≡ 20 → ⊥
plain n k e other h = other (e ∙ h)

pub number_at_front-requires : goal.number_at_front-requires
number_at_front-requires c = (read_window _ _ _ _ (omega arith) c.requires.2).long

pub returns-then-number_at_front-eq0 : goal.returns-then-number_at_front-eq0
returns-then-number_at_front-eq0 c = λ o other r. keep_alive_is _ o _ other (λ i. omega (arith, c.type_inv.window i)) (omega arith) r (cc)

pub id_at-requires : goal.id_at-requires
id_at-requires c =
    let w = read_window _ _ _ _ (omega arith) c.requires.2 in
    omega (arith, w.exact, c.number_at_front.ensures, c.if-number_at_front-eq0.false)

pub view_extended_judged-requires-clause-long : goal.view_extended_judged-requires-clause-long
view_extended_judged-requires-clause-long c =
    let w = read_window _ _ _ _ (omega arith) c.requires.2 in
    extended_long _ _ _ w (omega (arith, w.exact, c.number_at_front.ensures, c.if-number_at_front-eq0.false)) (sym c.id_at.ensures
    ∙ c.if-id_at-eq-EXTENDED.true)

pub view_extended_judged-requires-clause-judged : goal.view_extended_judged-requires-clause-judged
view_extended_judged-requires-clause-judged c =
    let w = read_window _ _ _ _ (omega arith) c.requires.2 in
    let long : 5 ≤ length c.args.window.now = omega (arith, w.exact, c.number_at_front.ensures, c.if-number_at_front-eq0.false) in
    let x = extended_is _ _ _ _ (omega arith) c.requires.2 long (sym c.id_at.ensures ∙ c.if-id_at-eq-EXTENDED.true) in
    (x.value, x.is, c.requires.3 ∙ ap dict_length x.same)

pub returns-then-id_at-eq-EXTENDED : goal.returns-then-id_at-eq-EXTENDED
returns-then-id_at-eq-EXTENDED c =
    let w = read_window _ _ _ _ (omega arith) c.requires.2 in
    let long : 5 ≤ length c.args.window.now = omega (arith, w.exact, c.number_at_front.ensures, c.if-number_at_front-eq0.false) in
    let twenty = sym c.id_at.ensures ∙ c.if-id_at-eq-EXTENDED.true in
    λ o other r. let x = extended_is _ o _ other (omega arith) r long twenty in
    ap (λ (v : Ext). m.Extended v) (c.view_extended_judged.ensures x.value x.is) ∙ sym x.same

pub read_fields-requires-clause-some : goal.read_fields-requires-clause-some
read_fields-requires-clause-some c =
    let w = read_window _ _ _ _ (omega arith) c.requires.2 in
    omega (arith, w.exact, c.number_at_front.ensures, c.if-number_at_front-eq0.false)

pub read_fields-requires-clause-sized : goal.read_fields-requires-clause-sized
read_fields-requires-clause-sized c =
    let w = read_window _ _ _ _ (omega arith) c.requires.2 in
    let right = read_sized _ _ _ _ (omega arith) c.requires.2 (omega (arith, w.exact, c.number_at_front.ensures, c.if-number_at_front-eq0.false)) in
    let size : length c.args.window.now - 4 ≡ said_length c.args.window.now = omega (arith, w.exact) in
    (c.args.context.now, ap (allows (size_of c.args.context.now (said_id c.args.window.now))) size ∙ right)

pub read_fields-requires-clause-plain : goal.read_fields-requires-clause-plain
read_fields-requires-clause-plain c = plain _ _ c.id_at.ensures c.if-id_at-eq-EXTENDED.false

pub returns : goal.returns
returns c =
    let w = read_window _ _ _ _ (omega arith) c.requires.2 in
    let long : 5 ≤ length c.args.window.now = omega (arith, w.exact, c.number_at_front.ensures, c.if-number_at_front-eq0.false) in
    λ o other r. c.read_fields.ensures.message
    ∙ plain_is _ o _ other (λ i. omega (arith, c.type_inv.window i)) (omega arith) r long (plain _ _ c.id_at.ensures c.if-id_at-eq-EXTENDED.false)
