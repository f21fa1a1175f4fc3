use Rattle.std.proofs.Common.{ap, ◌∙◌}
use Rattle.bt_flow.specs.Counts.{is_closed_at}
use Rattle.bt_flow.proofs.flow.Flow.is_closed.Goals as goal

pub returns : goal.returns
returns c = λ heard segs out f. (
  c.place.result,
  c.place.ensures heard segs out f,
  c.is_reached.ensures ∙ ap (λ o. is_closed_at o c.place.result c.acked.result) (c.fin.ensures ∙ f.half.fin)
      ∙ ap (is_closed_at _ c.place.result) (c.acked.ensures ∙ f.half.acked),
)
