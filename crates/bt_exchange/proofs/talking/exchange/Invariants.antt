use Rattle.std.proofs.Common.{◌+◌}
use Rattle.bt_exchange.proofs.Moves.{moment}
use Rattle.bt_exchange.proofs.Watches.{IsGoing}
use Rattle.bt_exchange.proofs.talking.exchange.Given as goal

-- the rounds that are counted were made, with no news
abbrev pub invariant-loop-made : goal.invariant-loop-made
invariant-loop-made g l = record {
  going : IsGoing (l.watch.since + l.patience) l.fn.steps l.steps l.made (moment (g.C.Connection.seen l.fn.connection) l.fn.hearing l.fn.end)
      (moment (g.C.Connection.seen l.connection) l.hearing l.end);
}
