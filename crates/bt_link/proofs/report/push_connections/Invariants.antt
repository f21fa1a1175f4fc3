use Rattle.std.proofs.Common.{◌≡◌, ◌+◌, ◌++◌, drop}
use Rattle.bt_link.specs.Shown.{connections_lines}
use Rattle.bt_link.proofs.report.push_connections.Given as goal

-- what is written, and the lines of the connections that are left
abbrev pub invariant-connections : goal.invariant-connections
invariant-connections l = l.text.items ++ connections_lines (l.i + 1) (drop l.i l.connections) ≡ l.initial.text.items ++ connections_lines 1 l.connections
