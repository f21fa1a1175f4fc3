use Rattle.std.proofs.Common.{true, false}
use Rattle.bt_text.proofs.ScriptLines.{added_answer}
use Rattle.bt_text.proofs.script.reading.append_line.Goals as goal

pub returns-then-not-first : goal.returns-then-not-first
returns-then-not-first c =
    rw c.if-not-first.true (added_answer false c.args.text.now c.args.out.now.items c.put_message.new.bytes.items c.put_message.result c.put_message.ensures)

pub returns : goal.returns
returns c =
    rw c.if-not-first.false (added_answer true c.args.text.now c.args.out.now.items c.put_handshake.new.bytes.items c.put_handshake.result
    c.put_handshake.ensures)
