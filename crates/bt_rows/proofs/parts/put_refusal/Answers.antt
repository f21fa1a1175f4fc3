use Rattle.std.proofs.Common.{append_assoc}
use Rattle.bt_rows.proofs.parts.put_refusal.Goals as goal

pub returns-clause-text : goal.returns-clause-text
returns-clause-text c =
    rw (
      c.put.ensures.text,
      c.as_bytes.ensures.value,
      c.name.ensures.name,
      c.put_word-at.ensures.text,
      c.put_number-at.ensures.text,
      c.put_between-at.ensures.text,
    )
    (simp append_assoc)
