use Rattle.std.proofs.Common.{◌∷◌, [], ap, ◌∙◌}
use Rattle.bt_wire.specs.declared.item.Item.TheVariants as items
use Rattle.bt_end.specs.Halves.{HalfState}
use Rattle.bt_session.proofs.report.start.Goals as goal

pub returns-in-Ok-first-clause-made : goal.returns-in-Ok-first-clause-made
returns-in-Ok-first-clause-made c = c.in-Ok.ensures.0

pub returns-in-Ok-first-clause-node : goal.returns-in-Ok-first-clause-node
returns-in-Ok-first-clause-node c =
    let n = c.in-Ok-first.ensures in
    let end = c.in-Ok.ensures.1 in
    record {
      end = n.0 ∙ end;
      untaken = n.1;
      sent = n.2 ∙ ap (λ (a : HalfState). items.Handshake a.end.handshake ∷ []) end;
      handled = n.3;
    }

pub returns-in-Err-clause-unmade : goal.returns-in-Err-clause-unmade
returns-in-Err-clause-unmade c = c.start_error.ensures c.args.config c.in-Err.ensures
