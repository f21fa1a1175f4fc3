use Rattle.std.proofs.Common.{◌∙◌, Option, Some, refl, sym, subst}
use Rattle.bt_talk.specs.declared.closing.Closed.{Closed as FirstClose}
use Rattle.bt_report.specs.declared.report.Closed.{Closed}
use Rattle.bt_capture.specs.Reportings.{IsClosedBy}
use Rattle.bt_capture.proofs.reporting.closed_of.Goals as goal

pub returns-in-Some : goal.returns-in-Some
returns-in-Some c = λ a b i.
    let r : Closed = record {
      first = c.in-Some.closed.side;
      by = c.means.result;
      at = c.saturating_sub.result;
      a = c.before_of.result;
      b = c.before_of-in-Some.result;
    } in
    subst (λ (o : Option FirstClose). IsClosedBy c.args.from a b c.args.talk.now o (Some r)) (sym (sym c.closed.ensures ∙ c.in-Some.is))
    (record {
      first = refl;
      by = c.means.ensures;
      at = c.saturating_sub.ensures;
      of_a = c.before_of.ensures a b i;
      of_b = c.before_of-in-Some.ensures a b i;
    })
