use Rattle.std.proofs.Common.{◌≡◌, ◌++◌, All, codes, drop, map, string_bytes}
use Rattle.bt_magnet.specs.Links.{pair_of, values_of}
use Rattle.bt_magnet.specs.Peers.{IsPeer}
use Rattle.bt_magnet.proofs.link.peers_of.Given as goal

-- the values that are left come after the peers so far
abbrev pub invariant-loop-pair : goal.invariant-loop-pair
invariant-loop-pair l =
    (values_of (codes "x.pe") (map pair_of l.pairs) ≡ map string_bytes l.peers.items ++ values_of (codes "x.pe") (map pair_of (drop l.pair-index l.pairs)))
    × All IsPeer (map string_bytes l.peers.items)
