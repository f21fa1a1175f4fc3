use Rattle.std.proofs.Common.{append_assoc}
use Rattle.bt_rows.proofs.rows.put_row_text.Goals as goal

pub returns-clause-text : goal.returns-clause-text
returns-clause-text c =
    rw (
      c.put_word.ensures.text,
      c.put_line_remarks-at.ensures.text,
      c.put_deed-at.ensures.text,
      c.put_between-at.ensures.text,
      c.put_word-at-3.ensures.text,
      c.letter.ensures.letter,
      c.put_word-at-2.ensures.text,
      c.put_clock-at.ensures.text,
      c.put_word-at.ensures.text,
      c.put_number-at.ensures.text,
    )
    (simp append_assoc)
