use Rattle.std.proofs.Common.{◌≡◌, ◌+◌, ◌-◌, ◌≤◌, ℕ, length, length-drop, sym, subst, ap, ◌∙◌, arith, rules}
use Rattle.bt_wire.specs.Messages.{Message}
use Rattle.bt_wire.specs.Faults.{said_length, said_id, allows, size_of}
use Rattle.bt_wire.specs.Headers.{IsRead}
use Rattle.bt_wire.proofs.HeaderLaws.{IsWindow-from_header}
use Rattle.bt_wire.proofs.WindowLaws.{keep_alive_read, fields_found, fields_read, window_fault, extended_long, plain_allowed, same_fields, sized}
use Rattle.bt_wire.proofs.decode.view_window.Goals as goal

-- the id that a call gave
plain : (n k : ℕ) → n ≡ k → (n ≡ 20 → ⊥) → k ≡ 20 → ⊥
plain n k e other h = other (e ∙ h)

pub number_at_front-length-requires : goal.number_at_front-length-requires
number_at_front-length-requires c = (IsWindow-from_header _ _ _ c.requires).long

pub returns-then-length-eq0-clause-ok : goal.returns-then-length-eq0-clause-ok
returns-then-length-eq0-clause-ok c = keep_alive_read _ _ _ (λ i. omega (arith, c.type_inv.window i)) (IsWindow-from_header _ _ _ c.requires) (cc)

pub id_at-id-requires : goal.id_at-id-requires
id_at-id-requires c =
    let window = IsWindow-from_header _ _ _ c.requires in
    omega (arith, window.exact, c.number_at_front-length.ensures, c.if-length-eq0.false)

pub view_extended-requires-clause-id : goal.view_extended-requires-clause-id
view_extended-requires-clause-id c = sym c.id_at-id.ensures ∙ c.if-id-eq-EXTENDED.true

pub view_extended-requires-clause-whole : goal.view_extended-requires-clause-whole
view_extended-requires-clause-whole c = IsWindow-from_header _ _ _ c.requires

pub view_extended-requires-clause-long : goal.view_extended-requires-clause-long
view_extended-requires-clause-long c =
    let window = IsWindow-from_header _ _ _ c.requires in
    extended_long _ _ _ window (omega (arith, window.exact, c.number_at_front-length.ensures, c.if-length-eq0.false)) (sym c.id_at-id.ensures
    ∙ c.if-id-eq-EXTENDED.true)

pub read_fields-view-requires-clause-some : goal.read_fields-view-requires-clause-some
read_fields-view-requires-clause-some c =
    let window = IsWindow-from_header _ _ _ c.requires in
    omega (arith, window.exact, c.number_at_front-length.ensures, c.if-length-eq0.false)

pub read_fields-view-requires-clause-sized : goal.read_fields-view-requires-clause-sized
read_fields-view-requires-clause-sized c =
    let window = IsWindow-from_header _ _ _ c.requires in
    let right = sized _ _ _ window (omega (arith, window.exact, c.number_at_front-length.ensures, c.if-length-eq0.false)) in
    let size : length c.args.window.now - 4 ≡ said_length c.args.window.now = omega (arith, window.exact) in
    (c.args.context.now, ap (allows (size_of c.args.context.now (said_id c.args.window.now))) size ∙ right)

pub read_fields-view-requires-clause-plain : goal.read_fields-view-requires-clause-plain
read_fields-view-requires-clause-plain c = plain _ _ c.id_at-id.ensures c.if-id-eq-EXTENDED.false

pub suffix-requires : goal.suffix-requires
suffix-requires c =
    let window = IsWindow-from_header _ _ _ c.requires in
    omega (arith, window.exact, c.number_at_front-length.ensures, c.if-length-eq0.false)

pub judge_bytes-requires : goal.judge_bytes-requires
judge_bytes-requires c =
    let window = IsWindow-from_header _ _ _ c.requires in
    let long : 5 ≤ length c.args.window.now = omega (arith, window.exact, c.number_at_front-length.ensures, c.if-length-eq0.false) in
    let right = sized _ _ _ window long in
    let size : length c.suffix.result.now + 1 ≡ said_length c.args.window.now = omega (
      arith,
      window.exact,
      long,
      ap (length {A = ℕ}) c.suffix.ensures,
      length-drop 5 c.args.window.now,
    ) in
    rw (c.id_at-id.ensures, size) right

pub returns-in-Some-clause-err : goal.returns-in-Some-clause-err
returns-in-Some-clause-err c =
    let window = IsWindow-from_header _ _ _ c.requires in
    let long : 5 ≤ length c.args.window.now = omega (arith, window.exact, c.number_at_front-length.ensures, c.if-length-eq0.false) in
    let found = fields_found _ _ _ (λ i. omega (arith, c.type_inv.window i)) window long (plain _ _ c.id_at-id.ensures c.if-id-eq-EXTENDED.false) in
    window_fault c.args.context.now c.args.order c.args.window.now _ c.in-Some.refused window long found
    (same_fields c.args.context.now c.number_at_front-length.result (said_length c.args.window.now) _ _ _ _ c.number_at_front-length.ensures
    (sym (c.read_fields-view.ensures.fields c.args.context.now)) c.read_fields-view.ensures.message
    (rw (c.id_at-id.ensures, c.suffix.ensures) at c.in-Some.ensures))

pub returns-in-None-clause-ok : goal.returns-in-None-clause-ok
returns-in-None-clause-ok c =
    let window = IsWindow-from_header _ _ _ c.requires in
    let long : 5 ≤ length c.args.window.now = omega (arith, window.exact, c.number_at_front-length.ensures, c.if-length-eq0.false) in
    let other = plain _ _ c.id_at-id.ensures c.if-id-eq-EXTENDED.false in
    let found = fields_found _ _ _ (λ i. omega (arith, c.type_inv.window i)) window long other in
    let P : Message → Type 0 = λ m. IsRead c.args.context.now c.args.order c.args.window.now m in
    subst P (sym c.read_fields-view.ensures.message) (fields_read c.args.context.now c.args.order c.args.window.now _ window long found
    (plain_allowed c.args.context.now _ _ found.its_part.id other)
    (same_fields c.args.context.now c.number_at_front-length.result (said_length c.args.window.now) _ _ _ _ c.number_at_front-length.ensures
    (sym (c.read_fields-view.ensures.fields c.args.context.now)) c.read_fields-view.ensures.message
    (rw (c.id_at-id.ensures, c.suffix.ensures) at c.in-None.ensures)))

pub returns-in-Some-clause-ok : goal.returns-in-Some-clause-ok
returns-in-Some-clause-ok c = search rules
