-- The addresses so far, and the bytes that are left.
use Rattle.std.proofs.Common.{◌≡◌, ◌++◌, All, length}
use Rattle.std.specs.List.{flat_map}
use Rattle.bt_address.specs.Compact.{IsPlainOf, compact_of}
use Rattle.bt_address.proofs.compact.read_addresses.Given as goal

abbrev pub invariant-loop : goal.invariant-loop
invariant-loop l =
    (flat_map compact_of l.found.items ++ l.rest ≡ l.fn.bytes)
    × All (IsPlainOf l.fn.family) l.found.items × (length l.found.items ≡ l.counter)
