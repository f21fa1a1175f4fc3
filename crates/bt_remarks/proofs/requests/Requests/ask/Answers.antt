use Rattle.std.proofs.Common.{false, sym, ◌∙◌, ap, cond, Some, is_some, refl}
use Rattle.bt_remarks.specs.Tables.{request_at}
use Rattle.bt_remarks.proofs.RequestProofs.{key_test, none_of_both, more}
use Rattle.bt_remarks.proofs.requests.Requests.ask.Goals as goal

pub returns-clause-ok : goal.returns-clause-ok
returns-clause-ok c = record {
  overflowed = none_of_both _ _ c.if-self.false (sym c.is_full.ensures ∙ c.if-is_full.false);
  pending = λ _ i b. c.in_ok-insert.ensures.updates.0 (i, b)
      ∙ ap (λ t. cond t (Some (record { number = c.args.number; length = c.args.block.length; mark = c.args.mark; is_cancelled = false }))
      (request_at c.args.self.now i b)) (key_test c.args.block i b);
  count = λ _. more _ c.in_ok-insert.field-0 _ _ (ap is_some c.in_ok-insert.ensures.old) c.in_ok-insert.ensures.len;
  answered = λ _. refl;
}
