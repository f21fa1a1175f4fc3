use Rattle.std.proofs.Common.{take}
use Rattle.bt_json.proofs.MemberLaws.{refused_line}
use Rattle.bt_json.proofs.lines.put_refusal.Goals as goal

pub returns-clause-text : goal.returns-clause-text
returns-clause-text c =
    rw c.put_word.ensures.text (rw c.put_number-place-2.ensures.text (rw c.put_word-place-2.ensures.text (rw c.put_number-place.ensures.text
    (rw c.put_word-place.ensures.text (refused_line (take c.args.at c.args.text.now) c.args.refusal)))))
