-- The count among the addresses so far.
use Rattle.std.proofs.Common.{◌≡◌, count_by, take}
use Rattle.bt_seek.specs.Addresses.{is_same_ip}
use Rattle.bt_seek.proofs.table.count_ip.Given as goal

abbrev pub invariant-loop-address : goal.invariant-loop-address
invariant-loop-address l = l.count ≡ count_by (λ a. is_same_ip l.wanted a) (take l.address-index l.addresses)
