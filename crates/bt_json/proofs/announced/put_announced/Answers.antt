use Rattle.std.proofs.Common.{append_assoc}
use Rattle.json.specs.Print.{escape_byte}
use Rattle.bt_json.proofs.announced.put_announced.Goals as goal

pub returns-clause-text : goal.returns-clause-text
unfolding escape_byte
returns-clause-text c =
    rw c.put_word.ensures.text (rw c.put_number_or_null-place-2.ensures.text (rw c.put_word-place-2.ensures.text
    (rw c.put_number_or_null-place.ensures.text (rw c.put_word-place.ensures.text (simp append_assoc)))))
