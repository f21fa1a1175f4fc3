use Rattle.std.proofs.Common.{◌≡◌, refl, sym, ap, subst, ◌∙◌, append-nil, arith}
use Rattle.bt_ext.specs.Payloads.{seen}
use Rattle.bt_ext.specs.declared.ext.ExtView.{ExtView}
use Rattle.bt_wire.specs.Messages.{MessageView, message_of, order_after}
use Rattle.bt_wire.specs.declared.context.Context.{Context}
use Rattle.bt_wire.specs.declared.context.Order.{Order}
use Rattle.bt_wire.specs.declared.message.Message.TheVariants as views
use Rattle.bt_end.specs.Ends.{EndState, Reaction, at_extended, at_message, greeted, quiet}
use Rattle.bt_end.specs.Reactors.{end_of, IsReacted}
use Rattle.bt_end.proofs.EventLaws.{plain}
use Rattle.bt_end.proofs.reactor.Reactor.handle.Goals as goal

quiet_at : (e : EndState) (v : MessageView) → ((x : ExtView) → v ≡ views.Extended x → ⊥) → at_message e (message_of v) ≡ quiet e
quiet_at e (views.Extended x) h = absurd (h x refl)
quiet_at e other h = refl

pub handle_extended-requires-clause-plan : goal.handle_extended-requires-clause-plan
handle_extended-requires-clause-plan g c = rw (c.in-Message.is, c.in-Extended.is) at c.requires.plan

pub handle_extended-requires-clause-room : goal.handle_extended-requires-clause-room
handle_extended-requires-clause-room g c = rw (c.in-Message.is, c.in-Extended.is) at c.requires.room

pub returns-in-Handshake-clause-reacted : goal.returns-in-Handshake-clause-reacted
returns-in-Handshake-clause-reacted g c =
    let P : Context → Type 0 = λ x. IsReacted {A = g.row.A.Denot} c.args.self.now c.greet.new.self (greeted (end_of c.args.self.now) x) in
    rw c.in-Handshake.is (subst P c.negotiate.ensures c.greet.ensures)

pub returns-in-Extended-clause-reacted : goal.returns-in-Extended-clause-reacted
returns-in-Extended-clause-reacted g c =
    let old = c.args.self.now in
    let P : Order → Type 0 = λ o. IsReacted {A = g.row.A.Denot} (record old { receives = c.next_of_view-self.result }) c.handle_extended.new.self
    (at_extended (record (end_of old) { receives = o }) (seen c.in-Extended.ext)) in
    let same = ap (λ (m : MessageView). order_after old.receives (message_of m)) c.in-Extended.is in
    let h = subst P (c.next_of_view-self.ensures ∙ same) c.handle_extended.ensures.reacted in
    rw (c.in-Message.is, c.in-Extended.is) (record { end = h.end; queued = h.queued; bound = h.bound })

pub returns-in_default-clause-reacted : goal.returns-in_default-clause-reacted
returns-in_default-clause-reacted g c =
    let old = c.args.self.now in
    let new = record old { receives = c.next_of_view-self.result } in
    let v = c.in-Message.message in
    let e : EndState = record (end_of old) { receives = order_after old.receives (message_of v) } in
    let r : IsReacted {A = g.row.A.Denot} old new (quiet e) = record {
      end = ap (λ (o : Order). record (end_of old) { receives = o }) c.next_of_view-self.ensures;
      queued = sym (append-nil old.outbox.bytes);
      bound = omega arith;
    } in
    rw c.in-Message.is (subst (λ (x : Reaction). IsReacted {A = g.row.A.Denot} old new x) (sym (quiet_at e v c.in_default.not-Extended)) r)

pub returns-in-Extended-clause-event : goal.returns-in-Extended-clause-event
returns-in-Extended-clause-event g c = rw (c.in-Message.is, c.in-Extended.is) c.handle_extended.ensures.event

pub returns-in_default-clause-event : goal.returns-in_default-clause-event
returns-in_default-clause-event g c =
    rw c.in-Message.is (c.plain_event.ensures ∙ plain (end_of c.args.self.now) c.in-Message.message c.in_default.not-Extended)
