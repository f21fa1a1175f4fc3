use Rattle.std.proofs.Common.{◌+◌, ◌<◌, length, take, arith}
use Rattle.bt_text.proofs.ScriptText.{two_parts}
use Rattle.bt_text.proofs.script.writing.put_bytes.Goals as goal
use Rattle.bt_text.proofs.script.writing.put_bytes.Goals.{else-is_empty-via-then-is_empty+else-is_empty-2, else-is_empty-via-else-is_empty}

pub returns-clause-text : goal.returns-clause-text
returns-clause-text c =
    let some : 0 < length c.args.front.now + length c.args.rest.now =
    elim c.else-is_empty.branch [ else-is_empty-via-then-is_empty+else-is_empty-2 w ↦ grind arith | else-is_empty-via-else-is_empty w ↦ grind arith ] in
    rw (c.put_word-2.ensures.text, c.put_hex-place-2.ensures.text, c.put_hex-place.ensures.text, c.put_word-place.ensures.text)
    (two_parts (take c.args.at c.args.text.now) c.args.front.now c.args.rest.now some)
