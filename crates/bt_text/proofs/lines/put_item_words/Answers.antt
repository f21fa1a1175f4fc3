use Rattle.bt_text.proofs.SameWords.{owned}
use Rattle.bt_text.proofs.lines.put_item_words.Goals as goal

pub returns-in-Message-clause-text : goal.returns-in-Message-clause-text
returns-in-Message-clause-text c = λ counted.
    rw c.in-Message.is (rw (owned c.in-Message.message) at (c.put_words.ensures.text (rw c.in-Message.is at counted)))
