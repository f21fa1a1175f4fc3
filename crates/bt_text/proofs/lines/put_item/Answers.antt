use Rattle.std.proofs.Common.{append_assoc}
use Rattle.bt_text.proofs.lines.put_item.Goals as goal

pub returns-clause-text : goal.returns-clause-text
returns-clause-text c = λ counted.
    rw (c.put_item_words.ensures.text counted, c.put_word-place.ensures.text, c.put_number-place.ensures.text) (simp append_assoc)
