use Rattle.std.proofs.Common.{◌≡◌, ◌∷◌, [], ap, ◌∙◌, refl}
use Rattle.std.proofs.lemmas.Result.{err_from_is_err_and}
use Rattle.std.specs.Global.{Vec}
use Rattle.bt_io.specs.Outbox.{Outgoing}
use Rattle.bt_wire.specs.declared.item.Item.{Item}
use Rattle.bt_wire.specs.declared.item.Item.TheVariants as items
use Rattle.bt_end.specs.Ends.{renewed}
use Rattle.bt_end.specs.Halves.{HalfState, connected}
use Rattle.bt_session.proofs.node.Node.renew.Goals as goal

pub returns-in_err-reset : goal.returns-in_err-reset
returns-in_err-reset c = let p = err_from_is_err_and c.from_residual.result c.from_residual.ensures.1 in rw p.1 tt

pub returns-in_err-sent : goal.returns-in_err-sent
returns-in_err-sent c =
    let p = err_from_is_err_and c.from_residual-in_err-sent.result c.from_residual-in_err-sent.ensures.1 in rw p.1 tt

pub returns : goal.returns
returns c = λ x h.
    let end : c.reset.new.self ≡ connected (renewed x.half.end) =
    c.in_ok-reset.ensures.ok ∙ ap (λ (a : HalfState). connected (renewed a.end)) h.end in (
      ap (λ (v : Vec Item). v.items) c.replace-before.ensures.value ∙ h.sent,
      h.handled,
      record {
        end = end;
        untaken = ap (λ (o : Outgoing). o.bytes) c.new.ensures;
        sent = ap (λ (v : Vec Item). v.items) c.replace-before.ensures.after ∙ c.in_ok-sent.ensures
            ∙ ap (λ (a : HalfState). items.Handshake a.end.handshake ∷ []) end;
        handled = refl;
      },
    )
