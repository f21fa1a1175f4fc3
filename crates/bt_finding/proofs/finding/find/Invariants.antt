use Rattle.std.proofs.Common.{◌≡◌}
use Rattle.std.specs.List.{flat_map}
use Rattle.std.specs.Io.KnownBytes.{Appends}
use Rattle.bt_finding.specs.Lines.{peer_line}
use Rattle.bt_finding.proofs.finding.find.Given as goal

-- the lines of the peers so far were written, and no write has failed
abbrev pub invariant-loop-turn : goal.invariant-loop-turn
invariant-loop-turn g l = Appends (g.W.Target.seen l.initial.writer).held (g.W.Target.seen l.writer).held (flat_map peer_line l.written.items)
    × ((g.W.Target.seen l.writer).failed ≡ (g.W.Target.seen l.initial.writer).failed)
