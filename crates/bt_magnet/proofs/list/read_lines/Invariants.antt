use Rattle.std.proofs.Common.{◌≡◌, ◌++◌, All, drop, map, string_bytes}
use Rattle.bt_magnet.specs.Lists.{entries_of}
use Rattle.bt_magnet.specs.Peers.{IsPeer}
use Rattle.bt_magnet.proofs.list.read_lines.Given as goal

-- the entries that are left come after the peers so far
abbrev pub invariant-loop-line : goal.invariant-loop-line
invariant-loop-line l =
    (entries_of (map (λ s. s.now) l.lines) ≡ map string_bytes l.peers.items ++ entries_of (drop l.line-index (map (λ s. s.now) l.lines)))
    × All IsPeer (map string_bytes l.peers.items) × (l.number ≡ l.line-index)
