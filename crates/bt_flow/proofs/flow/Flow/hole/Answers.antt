use Rattle.std.proofs.Common.{◌∙◌}
use Rattle.bt_flow.proofs.Holes.{acked_hole}
use Rattle.bt_flow.proofs.flow.Flow.hole.Goals as goal

pub returns : goal.returns
returns c = λ heard segs out f. acked_hole heard segs out c.args.self.now.stream c.acked-acked.result c.hole_to.result c.is_past_filling.result
    (c.acked-acked.ensures ∙ f.half.acked) (c.is_past_filling.ensures heard f.half) c.if-is_past_filling.false (c.hole_to.ensures.hole heard segs out f)
