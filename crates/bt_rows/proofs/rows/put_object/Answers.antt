use Rattle.std.proofs.Common.{append_assoc}
use Rattle.bt_rows.proofs.rows.put_object.Goals as goal

pub returns-clause-text : goal.returns-clause-text
returns-clause-text c =
    rw (
      c.put_word.ensures.text,
      c.put_object_remarks-at.ensures.text,
      c.put_deed_members-at.ensures.text,
      c.put_word-at-2.ensures.text,
      c.put_word-at.ensures.text,
      c.letter.ensures.letter,
      c.put_between-at-2.ensures.text,
      c.put_time-at.ensures.text,
      c.put_between-at.ensures.text,
    )
    (simp append_assoc)
