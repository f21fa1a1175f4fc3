use Rattle.std.proofs.Common.{refl, sym, ◌∙◌, ap, subst, cond, Some}
use Rattle.std.specs.Option.{IsSome}
use Rattle.bt_remarks.specs.Requests.{is_at}
use Rattle.bt_remarks.specs.Tables.{request_at}
use Rattle.bt_remarks.specs.declared.requests.Asked.{Asked}
use Rattle.bt_remarks.proofs.RequestProofs.{key_test, cancelled_there}
use Rattle.bt_remarks.proofs.requests.Requests.cancel.Goals as goal

pub returns-in-Some : goal.returns-in-Some
returns-in-Some c =
    let found = sym c.in-Some.ensures.value in
    let writes = c.get_mut.follows.holds c.marked.result in
    λ number mark. record {
      overflowed = refl;
      pending = λ _ i b. (writes.3 (subst (λ o. IsSome o) c.in-Some.ensures.value refl)).0 (i, b)
          ∙ ap (λ t. cond t (Some c.marked.result) (request_at c.args.self.now i b)) (key_test c.args.block i b)
          ∙ ap (λ (r : Asked). cond (is_at c.args.block i b) (Some r) (request_at c.args.self.now i b)) c.marked.ensures
          ∙ cancelled_there c.args.block (request_at c.args.self.now) i b c.in-Some.asked.now found;
      count = λ _. writes.2;
      answered = λ _. refl;
    }
