use Rattle.std.proofs.Common.{◌∙◌, refl, sym}
use Rattle.bt_capture.specs.Arrivals.{arrived}
use Rattle.bt_capture.proofs.Taking.{begins_by}
use Rattle.bt_capture.proofs.connections.begins_another.Goals as goal

pub returns-clause-there : goal.returns-clause-there
returns-clause-there c link there a b t =
    let o = c.opens_again.ensures a b t in
    begins_by c.opens_again.result (arrived link c.args.segment.now c.args.when) a b c.args.talk.now (sym c.is_over.ensures ∙ c.if-is_over.false)
    (record { s = c.args.segment.now; is = refl; side = o.0; is_side = o.1; stray = o.2.0; is_stray = o.2.1; opens_is = o.2.2 })
