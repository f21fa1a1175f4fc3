use Rattle.std.proofs.Common.{sym, ◌∙◌}
use Rattle.bt_text.proofs.Misfits.{spaced}
use Rattle.bt_text.proofs.ScriptWords.{ends_after}
use Rattle.bt_text.proofs.script.misfit.after_space.Goals as goal

pub returns : goal.returns
returns c = spaced (sym c.split_word.ensures.rest ∙ c.in_ok-rest.ensures.cases.0) (ends_after c.args.text.now)
