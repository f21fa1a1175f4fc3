use Rattle.std.proofs.Common.{◌∙◌}
use Rattle.bt_text.proofs.RowsByName.{row_by}
use Rattle.bt_text.proofs.script.reading.row_of.Goals as goal

pub returns : goal.returns
returns c = row_by _ c.in_ok-id.id c.in_ok-kind.kind c.in_ok-id.ensures.number (c.in_ok-kind.ensures ∙ c.in_ok-id.ensures.kind)
