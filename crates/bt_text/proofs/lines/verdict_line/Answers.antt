use Rattle.std.proofs.Common.{arith, refl}
use Rattle.std.proofs.lemmas.List.{drop_all}
use Rattle.bt_text.proofs.lines.verdict_line.Goals as goal

pub returns-in-Accepted-clause-text : goal.returns-in-Accepted-clause-text
returns-in-Accepted-clause-text c =
    rw c.in-Accepted.is (rw c.word.ensures.text (rw c.number-place-in-Accepted.ensures.text
    (rw c.word-place-in-Accepted.ensures.text (rw c.number-place.ensures.text
    (rw c.word-place.ensures.text (rw (drop_all 160 c.args.line.now (omega arith)) refl))))))

pub returns-in-Refused-clause-text : goal.returns-in-Refused-clause-text
returns-in-Refused-clause-text c =
    rw c.in-Refused.is (rw c.word-in-Refused.ensures.text (rw c.number-place-in-Refused-2.ensures.text
    (rw c.word-place-in-Refused-3.ensures.text (rw c.number-place-in-Refused.ensures.text
    (rw c.word-place-in-Refused-2.ensures.text (rw c.word-place-in-Refused.ensures.text
    (rw c.as_bytes.ensures.value (rw c.name.ensures.name (rw c.word-place.ensures.text (rw (drop_all 160 c.args.line.now (omega arith)) refl))))))))))
