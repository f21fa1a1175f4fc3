use Rattle.std.proofs.Common.{rules, ◌∙◌, List, [], ◌∷◌, ◌++◌, append_assoc, append-nil, ap, sym, subst}
use Rattle.std.specs.List.Sorted.{IsPermutation}
use Rattle.std.proofs.lemmas.List.Sorted.{IsNonDecreasingBy-from_sort_by_key, IsPermutation-append_comm, IsPermutation-append_right, IsPermutation-trans}
use Rattle.bt_capture.specs.Tables.{Held}
use Rattle.bt_capture.specs.declared.pair.Pair.{Pair}
use Rattle.bt_capture.proofs.Entries.{apart_moved}
use Rattle.bt_capture.proofs.Order.{ascend}
use Rattle.bt_capture.proofs.connections.Connections.rest.Goals as goal

pub table-preserved : goal.table-preserved
table-preserved c =
    let all : List (Pair × Held) = c.args.self.now.table in
    let rest : List (Pair × Held) = c.table.rest.items in
    let left : List (Pair × Held) = c.take_oldest.new.self in
    let e : Pair × Held = c.in-Some.oldest in
    let P : List (Pair × Held) → Type 0 = λ l. IsPermutation all (rest ++ l) in
    let Q : List (Pair × Held) → Type 0 = λ l. IsPermutation all l in
    let R : List (Pair × Held) → Type 0 = λ l. IsPermutation all (l ++ left) in
    let turned = IsPermutation-trans all (rest ++ (left ++ e ∷ [])) (rest ++ e ∷ left) (subst P c.in-Some.ensures.oldest c.table.invariant.all)
    (IsPermutation-append_right rest (left ++ e ∷ []) (e ∷ left) (IsPermutation-append_comm left (e ∷ []))) in
    record {
      all = subst R (sym c.in_ok-push.ensures.items) (subst Q (sym (append_assoc rest (e ∷ []) left)) turned);
      same = search (c.table.invariant.same);
    }

pub returns-clause-all : goal.returns-clause-all
returns-clause-all c =
    let all : List (Pair × Held) = c.args.self.now.table in
    let rest : List (Pair × Held) = c.table.rest.items in
    let Q : List (Pair × Held) → Type 0 = λ l. IsPermutation all l in
    IsPermutation-trans all rest c.sort_by_key.new.self.items (subst Q (ap (λ l. rest ++ l) (search rules) ∙ append-nil rest) c.table.invariant.all)
    c.in_ok-sort_by_key.ensures.permutation

pub returns-clause-apart : goal.returns-clause-apart
returns-clause-apart c = apart_moved c.args.self.now.table c.sort_by_key.new.self.items (returns-clause-all c) c.len.ensures.apart

pub returns-clause-sorted : goal.returns-clause-sorted
returns-clause-sorted c =
    ascend c.sort_by_key.new.self.items
    (IsNonDecreasingBy-from_sort_by_key (λ e. e.1.value.number) _ c.in_ok-sort_by_key.ensures.sorted (λ a r q k. search rules))
