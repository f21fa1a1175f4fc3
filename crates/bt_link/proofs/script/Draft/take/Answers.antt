use Rattle.std.proofs.Common.{List, sym, ◌∙◌, ap, subst, vec_len, arith}
use Rattle.std.proofs.lemmas.Bool.{eqb-true}
use Rattle.bt_link.specs.Entries.{IsReading}
use Rattle.std.proofs.lemmas.List.{nil_from_length}
use Rattle.bt_session.specs.declared.link.Step.{Step}
use Rattle.bt_link.specs.Scripts.{draft_of, sets, does}
use Rattle.bt_link.proofs.Reading.{none_taken, says_set, says_do}
use Rattle.bt_link.proofs.script.Draft.take.Goals as goal

pub returns-else-not-is_empty : goal.returns-else-not-is_empty
returns-else-not-is_empty c =
    sets c.in-Some-Set.side c.in-Some-Set.setting (sym c.is_comment.ensures ∙ c.if-is_comment.false)
    (says_set c.args.line.now c.in_ok-side.field-0 c.in-Some-Set.field-0 c.in-Some-Set.side c.in-Some-Set.setting c.in_ok-side.ensures c.in-Some-Set.is
    c.in-Some-Set.field-0-is)
    (let none = eqb-true (vec_len c.args.self.now.steps) 0 (sym c.is_empty.ensures ∙ c.if-not-is_empty.false) in nil_from_length c.args.self.now.steps.items
    (grind arith))
    c.set.ensures

pub returns-in_ok-push-in-Some-Do : goal.returns-in_ok-push-in-Some-Do
returns-in_ok-push-in-Some-Do c =
    does c.in-Some-Do.step (sym c.is_comment.ensures ∙ c.if-is_comment.false)
    (says_do c.args.line.now c.in_ok-side.field-0 c.in-Some-Do.field-0 c.in-Some-Do.step c.in_ok-side.ensures c.in-Some-Do.is c.in-Some-Do.field-0-is)
    (ap (λ (l : List Step). record (draft_of c.args.self.now) { steps = l }) c.in_ok-push-in-Some-Do.ensures.items)

pub returns-in-None : goal.returns-in-None
returns-in-None c =
    none_taken (draft_of c.args.self.now) c.args.line.now (sym c.is_comment.ensures ∙ c.if-is_comment.false)
    (subst (IsReading c.args.line.now) c.in-None.is c.in_ok-side.ensures)
