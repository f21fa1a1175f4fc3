-- The count among the addresses so far.
use Rattle.std.proofs.Common.{◌≡◌, count_by, take}
use Rattle.bt_seek.specs.Addresses.{is_same}
use Rattle.bt_seek.proofs.table.count_same.Given as goal

abbrev pub invariant-loop-address : goal.invariant-loop-address
invariant-loop-address l = l.count ≡ count_by (λ a. is_same l.wanted a) (take l.address-index l.addresses)
