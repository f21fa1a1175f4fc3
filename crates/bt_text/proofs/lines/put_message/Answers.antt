use Rattle.std.proofs.Common.{append_assoc}
use Rattle.bt_text.proofs.SameWords.{counted_view}
use Rattle.bt_text.proofs.lines.put_message.Goals as goal

pub returns-clause-text : goal.returns-clause-text
returns-clause-text c =
    rw (c.put_words.ensures.text (counted_view c.args.view.now), c.put_word-place.ensures.text, c.put-place.ensures.text) (simp append_assoc)
