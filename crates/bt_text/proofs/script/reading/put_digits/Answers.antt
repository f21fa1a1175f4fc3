use Rattle.bt_text.proofs.ScriptBytes.{digits_added}
use Rattle.bt_text.proofs.script.reading.put_digits.Goals as goal

pub returns-then-branch : goal.returns-then-branch
returns-then-branch c =
    digits_added c.args.id c.args.numbers.now c.args.digits.now c.args.bytes.now.items c.push_begin.new.bytes.items c.push_decoded.new.bytes.items
    c.in_ok-push_decoded.field-0 c.if-branch.true (rw c.in_ok-reserve.ensures.items at c.in_ok-push_begin.ensures) c.in_ok-push_decoded.ensures
