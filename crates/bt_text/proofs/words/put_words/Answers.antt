use Rattle.bt_text.proofs.words.put_words.Goals as goal

pub returns-in-AllowedFast-clause-text : goal.returns-in-AllowedFast-clause-text
returns-in-AllowedFast-clause-text g c = λ counted. rw (c.in-AllowedFast.is, ← c.from-in-AllowedFast.ensures) c.put_one-in-AllowedFast.ensures.text
