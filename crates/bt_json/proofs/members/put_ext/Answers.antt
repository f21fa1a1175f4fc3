use Rattle.std.proofs.Common.{length, take, ◌∙◌}
use Rattle.std.specs.Prelude.{codes}
use Rattle.json.specs.Print.{escape_byte}
use Rattle.bt_json.proofs.MemberLaws.{one_number, two_numbers}
use Rattle.bt_json.proofs.members.put_ext.Goals as goal

pub returns-in-DontHave-clause-text : goal.returns-in-DontHave-clause-text
unfolding escape_byte
returns-in-DontHave-clause-text c = rw c.in-DontHave.is (rw (← c.from.ensures)
    (c.put_one.ensures.text ∙ one_number (take c.args.at c.args.text.now) (codes "donthave") (codes "index") c.from.result))

pub returns-in-Raw-clause-text : goal.returns-in-Raw-clause-text
unfolding escape_byte
returns-in-Raw-clause-text c = rw c.in-Raw.is (rw (← c.from-in-Raw.ensures)
    (c.put_two.ensures.text
    ∙ two_numbers (take c.args.at c.args.text.now) (codes "extended") (codes "id") (codes "bytes") c.from-in-Raw.result (length c.in-Raw.payload.now)))
