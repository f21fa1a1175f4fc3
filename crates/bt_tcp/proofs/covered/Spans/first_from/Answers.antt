use Rattle.std.proofs.Common.{take, sym, subst, rules, of_calls, arith}
use Rattle.std.specs.Prelude.{Some, nat_le}
use Rattle.std.proofs.lemmas.List.Sorted.{IsPartitionedBy-leb, IsPartitionPoint-from_clause}
use Rattle.bt_tcp.specs.Covered.{is_covered, IsFirstFrom}
use Rattle.bt_tcp.proofs.CoveredProofs.{ends-rise, first-after, none-after}
use Rattle.bt_tcp.proofs.covered.Spans.first_from.Goals as goal

pub returns-then-passed-spans : goal.returns-then-passed-spans
returns-then-passed-spans c =
    let spans = take c.args.self.now.count c.args.table.now in
    let at = IsPartitionPoint-from_clause (λ t. nat_le t.to c.args.next) spans c.partition_point-passed.result c.partition_point-passed.ensures.partitioned
    (IsPartitionedBy-leb (λ t. t.to) spans c.args.next (ends-rise 0 spans c.requires.apart)) (λ a r f k. search (rules, of_calls)) in
    subst (λ n. IsFirstFrom (is_covered spans) c.args.next (Some n)) (sym c.max.ensures)
    (first-after 0 c.args.next spans c.partition_point-passed.result _ c.requires.apart (omega (arith, c.if-passed-spans.true)) at.0
    (at.1 c.partition_point-passed.result _ (omega arith) (omega (arith, c.if-passed-spans.true))))

pub returns-else-passed-spans : goal.returns-else-passed-spans
returns-else-passed-spans c =
    let spans = take c.args.self.now.count c.args.table.now in
    let at = IsPartitionPoint-from_clause (λ t. nat_le t.to c.args.next) spans c.partition_point-passed.result c.partition_point-passed.ensures.partitioned
    (IsPartitionedBy-leb (λ t. t.to) spans c.args.next (ends-rise 0 spans c.requires.apart)) (λ a r f k. search (rules, of_calls)) in
    none-after c.args.next spans (λ k d l. at.0 k d (omega arith) (omega (arith, l, c.if-passed-spans.false)))
