use Rattle.std.proofs.Common.{◌≡◌, ℕ, ◌++◌, ◌∷◌, [], List, length, ap, subst, ◌∙◌, refl}
use Rattle.bt_wire.specs.declared.item.Item.{Item}
use Rattle.bt_wire.specs.declared.item.Item.TheVariants as items
use Rattle.bt_end.specs.Ends.{belief, queueing}
use Rattle.bt_end.specs.Halves.{HalfState, reacted, IsSayable}
use Rattle.bt_session.specs.ByteLinks as B
use Rattle.bt_session.specs.Nodes.{Spells}
use Rattle.bt_session.proofs.Recording.{spells_queued}
use Rattle.bt_session.proofs.node.Node.say.Goals as goal

pub returns-in-Ok-record : goal.returns-in-Ok-record
returns-in-Ok-record c = λ x h well.
    let msg = c.args.message.now in
    let said = c.in-Ok.ensures in
    let may : IsSayable x.half msg = subst (λ (a : HalfState). IsSayable a msg) h.end said.0 in
    let now : c.say.new.self ≡ reacted x.half (queueing x.half.end (msg ∷ [])) = said.1 ∙ ap (λ (a : HalfState). reacted a (queueing a.end (msg ∷ []))) h.end in
    let spells : Spells c.belief-context.result c.sending-order.result c.rest-queued.result.now (msg ∷ []) =
    spells_queued x.half (queueing x.half.end (msg ∷ []))
    (c.outgoing.ensures.value ∙ ap (λ (a : HalfState). a.outbox) now) (c.belief-context.ensures ∙ ap (λ (a : HalfState). belief a.end) h.end)
    (c.sending-order.ensures ∙ ap (λ (a : HalfState). a.end.sends) h.end)
    (ap (length {A = ℕ}) (c.outgoing-before.ensures.value ∙ ap (λ (a : HalfState). a.outbox) h.end)) c.rest-queued.ensures (well may, tt) in (
      B.says x msg (reacted x.half (queueing x.half.end (msg ∷ []))),
      ((may, refl), refl),
      record {
        end = now;
        untaken = h.untaken;
        sent = c.in-Ok-record.ensures (msg ∷ []) spells ∙ ap (λ (js : List Item). js ++ items.Message msg ∷ [])
            h.sent;
        handled = h.handled;
      },
    )
