use Rattle.std.proofs.Common.{◌≡◌, ◌++◌, drop, map, string_bytes}
use Rattle.bt_magnet.specs.Links.{pair_of, trackers_in}
use Rattle.bt_magnet.proofs.link.trackers_of.Given as goal

-- the trackers that are left come after those so far
abbrev pub invariant-loop-pair : goal.invariant-loop-pair
invariant-loop-pair l =
    trackers_in (map pair_of l.pairs) ≡ map string_bytes l.trackers.items ++ trackers_in (map pair_of (drop l.pair-index l.pairs))
