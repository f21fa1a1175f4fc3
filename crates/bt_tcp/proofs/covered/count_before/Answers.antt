use Rattle.std.proofs.Common.{rules, of_calls}
use Rattle.std.specs.Prelude.{nat_lt}
use Rattle.std.proofs.lemmas.List.Sorted.{IsPartitionedBy-ltb, IsPartitionPoint-from_clause}
use Rattle.bt_tcp.proofs.CoveredProofs.{ends-rise, add-after}
use Rattle.bt_tcp.proofs.covered.count_before.Goals as goal

pub returns-clause-added : goal.returns-clause-added
returns-clause-added c =
    let spans = c.args.spans.now in
    let at = IsPartitionPoint-from_clause (λ t. nat_lt t.to c.args.span.from) spans c.partition_point.result c.partition_point.ensures.partitioned
    (IsPartitionedBy-ltb (λ t. t.to) spans c.args.span.from (ends-rise 0 spans c.requires)) (λ a r f k. search (rules, of_calls)) in
    add-after c.args.span spans c.partition_point.result c.partition_point.ensures.bound at.0 at.1
