use Rattle.std.proofs.Common.{append_assoc}
use Rattle.bt_rows.proofs.members.put_handshake.Goals as goal

pub returns-clause-text : goal.returns-clause-text
returns-clause-text c =
    rw (
      c.put_peer_text.ensures.text,
      c.put_word-at-4.ensures.text,
      c.put_hex-at-3.ensures.text,
      c.put_word-at-3.ensures.text,
      c.put_hex-at-2.ensures.text,
      c.put_word-at-2.ensures.text,
      c.put_hex-at.ensures.text,
      c.to_be_bytes.ensures,
      c.put_word-at.ensures.text,
    )
    (simp append_assoc)
