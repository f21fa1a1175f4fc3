use Rattle.std.proofs.Common.{append_assoc}
use Rattle.bt_text.proofs.lines.put_handshake.Goals as goal

pub returns-clause-text : goal.returns-clause-text
returns-clause-text c =
    rw (c.put_handshake_line.ensures.text, c.put_word-place.ensures.text, c.put_number-place.ensures.text) (simp append_assoc)
