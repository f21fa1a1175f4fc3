use Rattle.std.proofs.Common.{◌<◌, ◌+◌, sym, slice_set, List, ℕ, length, subst, ◌∙◌, arith}
use Rattle.std.proofs.lemmas.List.{length-set}
use Rattle.bt_c.specs.Steps.{Steps}
use Rattle.bt_c.proofs.BatchLaws.{IsSoFar, stopped, further}
use Rattle.bt_c.proofs.batch.bt_reader_batch.Goals as goal

pub returns-then-answer-ne-ITEM : goal.returns-then-answer-ne-ITEM
returns-then-answer-ne-ITEM c =
    let P : List ℕ → Type 0 = λ z. Steps c.items.reader z c.next_by-answer.new.reader c.next_by-answer.new.item c.next_by-answer.result.0 in
    stopped c.items.invariant.so_far (omega (arith, c.items.invariant.room, c.if-count-items.false))
    (subst P c.suffix.ensures c.next_by-answer.ensures.step) c.if-answer-ne-ITEM.true

pub overflow_add-used : goal.overflow_add-used
overflow_add-used c =
    let P : List ℕ → Type 0 = λ z. Steps c.items.reader z c.next_by-answer.new.reader c.next_by-answer.new.item c.next_by-answer.result.0 in
    let step = subst P c.suffix.ensures c.next_by-answer.ensures.step in
    let lt : c.items.count < length c.items.items = omega (arith, c.items.invariant.room, c.if-count-items.false) in
    let more = further c.items.invariant.so_far lt step c.if-answer-ne-ITEM.false in
    omega (arith, more.within, c.next_by-answer.ensures.size c.if-answer-ne-ITEM.false)

pub items-preserved : goal.items-preserved
items-preserved c =
    let r = c.items.reader in let t = c.next_by-answer.new.reader in let b = c.args.bytes.now in let n = c.next_by-answer.result.0 in
    let old = c.args.items.now in let new = c.items.items in let count = c.items.count in let used = c.items.used in
    let i = c.next_by-answer.new.item in let from = c.args.reader.now in
    let P : List ℕ → Type 0 = λ z. Steps r z t i n in
    let Q : ℕ → Type 0 = λ k. IsSoFar from b t old (slice_set new count i) (count + 1) (used + k) in
    let lt : count < length new = omega (arith, c.items.invariant.room, c.if-count-items.false) in
    let size = length-set new count i in
    let step = subst P c.suffix.ensures c.next_by-answer.ensures.step in
    let more = further c.items.invariant.so_far lt step c.if-answer-ne-ITEM.false in
    record {
      size = size ∙ c.items.invariant.size;
      room = omega (arith, size, c.items.invariant.room, c.if-count-items.false);
      so_far = subst Q (sym (c.next_by-answer.ensures.size c.if-answer-ne-ITEM.false)) more;
      context = c.next_by-answer.ensures.context;
    }
