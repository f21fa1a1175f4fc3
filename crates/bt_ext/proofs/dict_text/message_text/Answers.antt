use Rattle.std.proofs.Common.{refl, pos, codes}
use Rattle.bt_bencode.specs.Trees.{no_pairs, pair, integer}
use Rattle.bt_ext.proofs.dict_text.message_text.Goals as goal

pub returns-in-Request-clause-text : goal.returns-in-Request-clause-text
returns-in-Request-clause-text c = rw c.in-Request.is (c.put_typed.ensures.text no_pairs c.put_end-end.ensures.text)

pub returns-in-Data-clause-text : goal.returns-in-Data-clause-text
returns-in-Data-clause-text c =
    rw c.in-Data.is
    (c.put_typed-in-Data.ensures.text (pair (codes "total_size") (integer (pos c.in-Data.total)) no_pairs)
    (rw (c.put_last-place.ensures.text, c.put_end-end.ensures.text) refl))

pub returns-in-Reject-clause-text : goal.returns-in-Reject-clause-text
returns-in-Reject-clause-text c = rw c.in-Reject.is (c.put_typed-in-Reject.ensures.text no_pairs c.put_end-end.ensures.text)
