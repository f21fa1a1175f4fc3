use Rattle.std.proofs.Common.{rules, append_assoc}
use Rattle.std.specs.Prelude.{IsUtf8}
use Rattle.bt_json.proofs.EscapeLaws.{text_token}
use Rattle.bt_rows.proofs.peer_text.put_peer_text.Goals as goal

pub returns-clause-text : goal.returns-clause-text
returns-clause-text c =
    let utf8 : IsUtf8 c.args.id.now = search rules in
    rw (← text_token c.args.id.now utf8)
    (rw (c.put_word-2.ensures.text, c.put_string-at.ensures.text, c.put_word-at.ensures.text) (simp append_assoc))
