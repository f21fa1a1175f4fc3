use Rattle.std.proofs.Common.{◌≡◌, ◌++◌, ℕ, List, rules, subst}
use Rattle.std.specs.Prelude.{IfOk}
use Rattle.bt_text.specs.Misfits.{IsMisfitOr}
use Rattle.bt_text.specs.ScriptReading.{word_of}
use Rattle.bt_text.proofs.ScriptWords.{word-parts, ends_after}
use Rattle.bt_text.proofs.script.misfit.find_misfit.Goals as goal

pub follow-requires-clause-ends : goal.follow-requires-clause-ends
follow-requires-clause-ends c = rw c.split_word.ensures.rest (ends_after c.args.text.now)

pub returns : goal.returns
returns c =
    let name : c.in_ok-front.front.items ≡ word_of c.args.text.now = search rules in
    let whole : c.in_ok-front.front.items ++ c.split_word.result.1.now ≡ c.args.text.now =
    rw name (rw c.split_word.ensures.rest (word-parts c.args.text.now)) in
    subst (λ (t : List ℕ). IfOk c.follow.result (IsMisfitOr c.args.first t)) whole c.follow.ensures
