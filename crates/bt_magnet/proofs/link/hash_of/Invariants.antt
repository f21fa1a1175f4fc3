use Rattle.std.proofs.Common.{◌≡◌, drop, map}
use Rattle.bt_magnet.specs.Links.{first_topic, pair_of}
use Rattle.bt_magnet.proofs.link.hash_of.Given as goal

-- no topic came so far
abbrev pub invariant-loop-pair : goal.invariant-loop-pair
invariant-loop-pair l = first_topic (map pair_of l.pairs) ≡ first_topic (map pair_of (drop l.pair-index l.pairs))
