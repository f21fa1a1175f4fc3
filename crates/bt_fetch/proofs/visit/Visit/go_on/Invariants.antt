use Rattle.std.proofs.Common.{◌≡◌, ◌≤◌, ◌+◌}
use Rattle.bt_fetch.proofs.visit.Visit.go_on.Given as goal

-- each step so far was counted
abbrev pub invariant-loop-step : goal.invariant-loop-step
invariant-loop-step g l = record {
  handshake : l.end.end.handshake ≡ l.fn.end.end.handshake;
  spent : (g.L.Connection.seen l.self.line.link).counts.calls + l.self.left ≤ (g.L.Connection.seen l.fn.self.line.link).counts.calls + l.fn.self.left;
  left : l.self.left + l._step ≤ l.fn.self.left;
  address : l.self.address ≡ l.fn.self.address;
}
