-- The nodes so far, and the infos that are left.
use Rattle.std.proofs.Common.{◌≡◌, ◌++◌, All, length}
use Rattle.std.specs.List.{flat_map}
use Rattle.bt_seek.specs.Answers.{IsNodeOf, info_of}
use Rattle.bt_seek.proofs.said.nodes_in.Given as goal

abbrev pub invariant-loop : goal.invariant-loop
invariant-loop l =
    (flat_map info_of l.nodes.items ++ l.rest ≡ l.fn.infos) × All (IsNodeOf l.fn.family) l.nodes.items × (length l.nodes.items ≡ l.counter)
