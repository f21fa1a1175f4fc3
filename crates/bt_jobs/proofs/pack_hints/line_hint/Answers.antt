use Rattle.std.proofs.Common.{◌≡◌, ◌==◌, true, Some, ap, rules}
use Rattle.bt_text.specs.declared.ended.PackEnd.TheVariants.{Refused}
use Rattle.bt_text.specs.declared.ended.ScriptReason.TheVariants.{Syntax}
use Rattle.bt_text.specs.Misfits.{misfit_line}
use Rattle.bt_jobs.proofs.pack_hints.line_hint.Goals as goal

pub returns-in_ok-push_misfit_line-in-Refused-default-Syntax : goal.returns-in_ok-push_misfit_line-in-Refused-default-Syntax
returns-in_ok-push_misfit_line-in-Refused-default-Syntax c =
    let refused = c.in-Refused-default-Syntax.refused in
    let is : c.args.end ≡ Refused refused Syntax = search rules in
    let here : (refused == c.args.number) ≡ true = search rules in
    let said : c.push_misfit_line.new.line.items ≡ misfit_line c.args.number c.in-Some.misfit = search rules in
    rw (is, here) (Some c.in-Some.misfit, rw c.in-Some.is at c.in_ok-misfit-in-Refused-default-Syntax.ensures, ap Some said)
