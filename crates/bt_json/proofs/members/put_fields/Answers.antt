use Rattle.std.proofs.Common.{length, take, ◌∙◌}
use Rattle.std.specs.Prelude.{codes}
use Rattle.json.specs.Print.{escape_byte}
use Rattle.bt_json.proofs.MemberLaws.{one_number, two_numbers}
use Rattle.bt_json.proofs.members.put_fields.Goals as goal

pub returns-in-Bitfield-clause-text : goal.returns-in-Bitfield-clause-text
unfolding escape_byte
returns-in-Bitfield-clause-text c = λ own. rw c.in-Bitfield.is
    (c.put_one-in-Bitfield.ensures.text ∙ one_number (take c.args.at c.args.text.now) (codes "bitfield") (codes "bytes") (length c.in-Bitfield.bits.now))

pub returns-in-AllowedFast-clause-text : goal.returns-in-AllowedFast-clause-text
unfolding escape_byte
returns-in-AllowedFast-clause-text c = λ own. rw c.in-AllowedFast.is (rw (← c.from-in-AllowedFast.ensures)
    (c.put_one-in-AllowedFast.ensures.text ∙ one_number (take c.args.at c.args.text.now) (codes "allowed-fast") (codes "index") c.from-in-AllowedFast.result))

pub returns-in-Unknown-clause-text : goal.returns-in-Unknown-clause-text
unfolding escape_byte
returns-in-Unknown-clause-text c = λ own. rw c.in-Unknown.is (rw (← c.from-in-Unknown.ensures)
    (c.put_two.ensures.text
    ∙ two_numbers (take c.args.at c.args.text.now) (codes "unknown") (codes "id") (codes "bytes") c.from-in-Unknown.result (length c.in-Unknown.payload.now)))
