use Rattle.std.proofs.Common.{append_assoc}
use Rattle.bt_rows.proofs.row_buffer.put_item_row.Goals as goal

pub returns-in-Object-clause-text : goal.returns-in-Object-clause-text
returns-in-Object-clause-text c =
    rw (c.end_object.ensures.text, c.put-at.ensures.text, c.in-Object.is)
    (simp append_assoc)
