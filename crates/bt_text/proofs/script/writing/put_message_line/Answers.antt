use Rattle.std.proofs.Common.{◌++◌, ◌∙◌, List, ℕ, take, ap}
use Rattle.std.specs.Prelude.{codes}
use Rattle.bt_text.proofs.SameWords.{counted_view, same_words}
use Rattle.bt_text.proofs.script.writing.put_message_line.Goals as goal

pub returns-in_default-clause-text : goal.returns-in_default-clause-text
returns-in_default-clause-text c =
    let v = c.args.view.now in
    let m = c.in_default in
    c.put_words.ensures.text (counted_view v)
    ∙ ap (λ (w : List ℕ). take c.args.at c.args.text.now ++ (w ++ codes "\n"))
    (same_words c.args.own.now v m.not-Bitfield m.not-Piece m.not-Extended m.not-Unknown)
