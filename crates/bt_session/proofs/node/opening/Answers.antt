use Rattle.std.proofs.Common.{List, ◌∷◌, [], ◌++◌, ap, ◌∙◌}
use Rattle.bt_wire.specs.declared.handshake.Handshake.{Handshake}
use Rattle.bt_wire.specs.declared.item.Item.{Item}
use Rattle.bt_wire.specs.declared.item.Item.TheVariants as items
use Rattle.bt_session.proofs.node.opening.Goals as goal

pub returns-in-Ok : goal.returns-in-Ok
returns-in-Ok c =
    c.in-Ok.ensures.items ∙ ap (λ (xs : List Item). xs ++ items.Handshake c.handshake.result ∷ []) c.new-sent.ensures.items
    ∙ ap (λ (h : Handshake). items.Handshake h ∷ []) c.handshake.ensures
