use Rattle.std.proofs.Common.{append_assoc}
use Rattle.bt_rows.proofs.rows.put_deed_members.Goals as goal

pub returns-in-Closed-clause-text : goal.returns-in-Closed-clause-text
returns-in-Closed-clause-text c =
    rw (
      c.put_word.ensures.text,
      c.put_word-at-in-Closed.ensures.text,
      c.flag_of-word.ensures.flag,
      c.put_between-at-in-Closed.ensures.text,
      c.in-Closed.is,
    )
    (simp append_assoc)
