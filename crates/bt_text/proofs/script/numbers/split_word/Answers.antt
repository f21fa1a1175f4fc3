use Rattle.bt_text.proofs.ScriptWords.{take-word, drop-word, word_end}
use Rattle.bt_text.proofs.script.numbers.split_word.Goals as goal

pub returns-clause-word : goal.returns-clause-word
returns-clause-word c = rw c.split_at.ensures.front (rw c.unwrap_or-end.ensures
    (rw c.first_space.ensures (rw (word_end c.args.text.now) (take-word c.args.text.now))))

pub returns-clause-rest : goal.returns-clause-rest
returns-clause-rest c = rw c.split_at.ensures.back (rw c.unwrap_or-end.ensures
    (rw c.first_space.ensures (rw (word_end c.args.text.now) (drop-word c.args.text.now))))
