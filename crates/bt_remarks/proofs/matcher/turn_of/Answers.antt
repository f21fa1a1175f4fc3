use Rattle.std.proofs.Common.{ℕ, List, false, rules, ◌∙◌, ap, subst}
use Rattle.bt_remarks.specs.Said.{Told, Other, told}
use Rattle.bt_remarks.specs.Known.{number_after}
use Rattle.bt_remarks.specs.Remarked.{tally_after}
use Rattle.bt_remarks.specs.Steps.{IsHalfAfter}
use Rattle.bt_remarks.proofs.HistoryProofs.{own_step, other_step, half_stays}
use Rattle.bt_remarks.specs.declared.events.Side.{Side}
use Rattle.bt_remarks.specs.Matched.{IsHalf}
use Rattle.bt_remarks.proofs.matcher.turn_of.Goals as goal

pub returns-clause-ok : goal.returns-clause-ok
returns-clause-ok c = λ events h g at.
    let e = told c.args.heard.now in
    let M : ℕ → Type 0 = λ n. IsHalfAfter e.message Other e.known n e.mark c.args.mine.now c.note.new.mine in
    record {
      remarks = c.remarks_on-remarks.ensures events h g;
      mine = own_step e events c.args.mine.now c.note.new.mine h (subst M at c.in_ok-note.ensures.mine);
      theirs = other_step e events c.args.theirs.now c.note.new.theirs g (c.in_ok-note.ensures.theirs e.known (number_after events) e.mark);
      tally = c.add.ensures ∙ ap (λ r. tally_after r e.mark c.args.tally.now) (c.remarks_on-remarks.ensures events h g);
    }

pub returns-in_err-note-clause-theirs : goal.returns-in_err-note-clause-theirs
returns-in_err-note-clause-theirs c =
    let stays : (side : Side) → (events : List Told) → IsHalf side events c.args.theirs.now → IsHalf side events c.note.new.theirs =
    λ side events h. half_stays side events false 0 0 c.args.theirs.now c.note.new.theirs h (c.in_err-note.ensures.theirs_err false 0 0) in
    search (rules, stays)
