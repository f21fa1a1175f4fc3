use Rattle.std.proofs.Common.{arith, refl}
use Rattle.std.proofs.lemmas.List.{drop_all}
use Rattle.bt_text.proofs.lines.refused_line.Goals as goal

pub returns-clause-text : goal.returns-clause-text
returns-clause-text c =
    rw c.word.ensures.text (rw c.number-place.ensures.text (rw c.word-place-3.ensures.text
    (rw c.word-place-2.ensures.text (rw c.word-place.ensures.text
    (rw c.script_name_of.ensures.name (rw (drop_all 160 c.args.line.now (omega arith)) refl))))))
