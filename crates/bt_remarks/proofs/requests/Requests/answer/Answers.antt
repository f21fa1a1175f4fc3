use Rattle.std.proofs.Common.{refl, ◌≡◌, ◌∙◌, ap, sym, cond, None, is_some, ◌+◌, true, eq-eqb, if◌then◌else◌}
use Rattle.std.specs.BTreeMap.{btree_map_len}
use Rattle.bt_remarks.specs.Requests.{has_length}
use Rattle.bt_remarks.specs.Tables.{request_at}
use Rattle.bt_remarks.proofs.RequestProofs.{key_test, removed, fewer, newer}
use Rattle.bt_remarks.proofs.requests.Requests.answer.Goals as goal

pub returns : goal.returns
returns c =
    let found = sym c.in-Some.ensures.value in
    let has : has_length c.args.block.length (request_at c.args.self.now c.args.block.index c.args.block.begin) ≡ true = ap
    (has_length c.args.block.length) found ∙ eq-eqb c.in-Some.asked.now.length c.args.block.length c.if-asked-block.true in
    λ number mark. record {
      overflowed = refl;
      pending = λ _ i b. c.remove.ensures.updates.0 (i, b) ∙ ap (λ t. cond t None (request_at c.args.self.now i b)) (key_test c.args.block i b)
          ∙ removed c.args.block (request_at c.args.self.now) i b has;
      count = λ _. fewer _ _ _ has (ap (λ o. btree_map_len c.remove.new.self + (if is_some o then 1 else 0)) (sym (c.remove.ensures.value ∙ found))
          ∙ c.remove.ensures.len);
      answered = λ _. c.max-self.ensures ∙ newer _ _ _ _ found c.if-asked-block.true;
    }
