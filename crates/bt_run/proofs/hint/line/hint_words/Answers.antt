use Rattle.bt_run.proofs.hint.line.hint_words.Goals as goal

pub returns-in-Handshake : goal.returns-in-Handshake
returns-in-Handshake c = rw (c.in-Handshake.is, ← c.saturating_add-from.ensures) c.format-in-Handshake.ensures.ok

pub returns-in-KeepAlives : goal.returns-in-KeepAlives
returns-in-KeepAlives c = rw c.in-KeepAlives.is c.format-in-KeepAlives.ensures.ok
