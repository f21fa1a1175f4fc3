use Rattle.std.proofs.Common.{◌≡◌, drop}
use Rattle.bt_tcp.specs.Covered.{join}
use Rattle.bt_tcp.proofs.covered.joined.Given as goal

abbrev pub invariant-loop-k : goal.invariant-loop-k
invariant-loop-k l = join l.fn.span l.spans ≡ join l.hull (drop l.k l.spans)
