use Rattle.std.proofs.Common.{length, take, ◌∙◌}
use Rattle.std.specs.Prelude.{codes}
use Rattle.bt_bencode.specs.Bencoding.{ben}
use Rattle.bt_bencode.specs.Trees.{dictionary}
use Rattle.json.specs.Print.{escape_byte}
use Rattle.bt_json.proofs.MemberLaws.{one_number, two_numbers}
use Rattle.bt_json.proofs.members.put_metadata.Goals as goal

pub returns-in-Request-clause-text : goal.returns-in-Request-clause-text
unfolding escape_byte
returns-in-Request-clause-text c =
    rw (← c.in-Request.ensures) (rw (← c.from.ensures)
    (c.put_one.ensures.text ∙ one_number (take c.args.at c.args.text.now) (codes "metadata-request") (codes "piece") c.from.result))

pub returns-in-Reject-clause-text : goal.returns-in-Reject-clause-text
unfolding escape_byte
returns-in-Reject-clause-text c =
    rw (← c.in-Reject.ensures) (rw (← c.from-in-Reject.ensures)
    (c.put_one-in-Reject.ensures.text ∙ one_number (take c.args.at c.args.text.now) (codes "metadata-reject") (codes "piece") c.from-in-Reject.result))

pub returns-in-Data-clause-text : goal.returns-in-Data-clause-text
returns-in-Data-clause-text c = rw (← c.in-Data.ensures) c.put_data.ensures.text

pub returns-in-Other-clause-text : goal.returns-in-Other-clause-text
unfolding escape_byte
returns-in-Other-clause-text c =
    rw (← c.in-Other.ensures) (c.put_sizes.ensures.text ∙ two_numbers (take c.args.at c.args.text.now) (codes "metadata-other") (codes "dictionary") (codes "rest")
    (length (ben (dictionary c.args.dict.now.tree.0))) (length c.args.rest.now))

pub returns-in-Malformed-clause-text : goal.returns-in-Malformed-clause-text
unfolding escape_byte
returns-in-Malformed-clause-text c =
    rw (← c.in-Malformed.ensures) (c.put_sizes-in-Malformed.ensures.text ∙ two_numbers (take c.args.at c.args.text.now) (codes "metadata-malformed") (codes "dictionary") (codes "rest")
    (length (ben (dictionary c.args.dict.now.tree.0))) (length c.args.rest.now))
