use Rattle.std.proofs.Common.{sym, ◌∙◌, arith, refl}
use Rattle.bt_order.specs.Held.{packet_with}
use Rattle.bt_order.proofs.Taking.{takes_ended, takes_repeat, takes_held, takes_lost, nearest_unique}
use Rattle.bt_order.proofs.direction.Direction.take.Goals as goal

pub returns-then-not-is_open-clause-taken : goal.returns-then-not-is_open-clause-taken
returns-then-not-is_open-clause-taken c i near = takes_ended _ c.args.self.now _ (sym c.is_open.ensures ∙ c.if-not-is_open.true)

pub returns-in_default-clause-taken : goal.returns-in_default-clause-taken
returns-in_default-clause-taken c i near =
    takes_lost _ c.args.self.now c.lose.new.self _ c.lose.ensures.course c.lose.ensures.place c.lose.ensures.start c.lose.ensures.free

pub returns-then-index-self-clause-taken : goal.returns-then-index-self-clause-taken
returns-then-index-self-clause-taken c i near =
    let d = c.args.self.now in
    let is = nearest_unique d.first d.next c.args.number i c.in-Some.index near c.in-Some.ensures.found.0 in
    takes_repeat (packet_with i c.args.payload.now) d _ (sym c.is_open.ensures ∙ c.if-not-is_open.false) (omega (arith, is, c.if-index-self.true))

pub returns-then-index-self-2-clause-taken : goal.returns-then-index-self-2-clause-taken
returns-then-index-self-2-clause-taken c =
    takes_held c.args.number c.args.room c.args.payload.now c.in-Some.index c.in_ok-has_room.has_room c.args.self.now _ _
    (sym c.is_open.ensures ∙ c.if-not-is_open.false) c.in-Some.ensures.found.0 c.if-index-self-2.true
    c.in_ok-has_room.ensures.held c.in_ok-has_room.ensures.full c.in_ok-has_room.ensures.same refl refl refl (record { first = refl; base = refl })
