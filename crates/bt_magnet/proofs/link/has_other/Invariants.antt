use Rattle.std.proofs.Common.{◌≡◌, drop, map}
use Rattle.std.specs.List.{list_any}
use Rattle.bt_magnet.specs.Links.{is_other, pair_of}
use Rattle.bt_magnet.proofs.link.has_other.Given as goal

-- none so far
abbrev pub invariant-loop-pair : goal.invariant-loop-pair
invariant-loop-pair l = list_any is_other (map pair_of l.pairs) ≡ list_any is_other (map pair_of (drop l.pair-index l.pairs))
