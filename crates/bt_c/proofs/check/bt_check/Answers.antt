use Rattle.std.proofs.Common.{◌≤◌, ◌++◌, [], ◌∷◌, List, ℕ, length, drop, ap, subst, arith}
use Rattle.std.proofs.lemmas.List.{length-append, length-drop, drop-drop}
use Rattle.bt_c.specs.Runs.{Reads}
use Rattle.bt_c.specs.Steps.{Ends}
use Rattle.bt_c.proofs.RunLaws.{new_reader, checked, given, given_size, reads_more}
use Rattle.bt_c.proofs.check.bt_check.Goals as goal

pub returns-then-answer-ne-ITEM : goal.returns-then-answer-ne-ITEM
returns-then-answer-ne-ITEM c =
    let so_far = c.items.invariant.reads in
    let ends = subst (λ (b : List ℕ). Ends c.items.reader b c.last_item-answer.new.reader c.last_item-answer.new.item c.last_item-answer.result)
    c.suffix.ensures c.last_item-answer.ensures in
    checked c.args.own.now so_far.0 (omega arith) so_far.1 so_far.2 ends c.if-answer-ne-ITEM.true
    (record { end = c.verdict_of.ensures.end; refused = c.verdict_of.ensures.refused })

-- the item of an answer 1
item_size : (c : goal.Else-answer-ne-ITEM) → (4 ≤ c.last_item-answer.new.item.size)
    × (c.last_item-answer.new.item.size ≤ length (drop c.items.at c.args.bytes.now))
item_size c =
    let b = drop c.items.at c.args.bytes.now in let i = c.last_item-answer.new.item in let t = c.last_item-answer.new.reader in
    let ends = subst (λ (z : List ℕ). Ends c.items.reader z t i c.last_item-answer.result) c.suffix.ensures c.last_item-answer.ensures in
    let next = given c.items.reader b t i c.last_item-answer.result ends c.if-answer-ne-ITEM.false in
    given_size c.items.reader b t i next.0 next.1

pub overflow_add-at : goal.overflow_add-at
overflow_add-at c = omega (
  arith,
  (item_size c).1,
  length-drop c.items.at c.args.bytes.now,
  c.items.invariant.within,
  ap length c.suffix.ensures,
  c.suffix.type_inv.0,
)

pub items-smaller : goal.items-smaller
items-smaller c = omega (arith, (item_size c).0, (item_size c).1, length-drop c.items.at c.args.bytes.now, c.items.invariant.within)

pub items-preserved : goal.items-preserved
items-preserved c =
    let so_far = c.items.invariant.reads in let b = c.args.bytes.now in let at = c.items.at in
    let i = c.last_item-answer.new.item in let t = c.last_item-answer.new.reader in
    let ends = subst (λ (z : List ℕ). Ends c.items.reader z t i c.last_item-answer.result) c.suffix.ensures c.last_item-answer.ensures in
    let next = given c.items.reader (drop at b) t i c.last_item-answer.result ends c.if-answer-ne-ITEM.false in
    let reads = reads_more so_far.0 (new_reader c.args.own.now) c.items.reader t b (drop at b) i next.0 so_far.1 next.1 in
    record {
      within = omega (arith, (item_size c).1, length-drop at b, c.items.invariant.within);
      moved = omega (arith, (item_size c).0, c.items.invariant.moved);
      reads = (
        so_far.0 ++ (i.start, next.0) ∷ [],
        subst (λ (z : List ℕ). Reads (new_reader c.args.own.now) b (so_far.0 ++ (i.start, next.0) ∷ []) t z)
            (drop-drop i.size at b) reads,
        omega (arith, so_far.2, length-append so_far.0 ((i.start, next.0) ∷ [])),
      );
    }
