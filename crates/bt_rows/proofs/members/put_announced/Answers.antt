use Rattle.std.proofs.Common.{append_assoc}
use Rattle.bt_rows.proofs.members.put_announced.Goals as goal

pub returns-clause-text : goal.returns-clause-text
returns-clause-text c =
    rw (
      c.put_option.ensures.text,
      c.put_option-at.ensures.text,
      c.put_number-at.ensures.text,
      c.put_between-at.ensures.text,
    )
    (simp append_assoc)
