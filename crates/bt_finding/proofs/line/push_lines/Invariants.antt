use Rattle.std.proofs.Common.{◌≡◌, ◌++◌, drop}
use Rattle.std.specs.List.{flat_map}
use Rattle.bt_finding.specs.Lines.{peer_line}
use Rattle.bt_finding.proofs.line.push_lines.Given as goal

-- the lines that are left come after those so far
abbrev pub invariant-loop-peer : goal.invariant-loop-peer
invariant-loop-peer l = l.fn.text.items ++ flat_map peer_line l.peers ≡ l.text.items ++ flat_map peer_line (drop l.peer-index l.peers)
