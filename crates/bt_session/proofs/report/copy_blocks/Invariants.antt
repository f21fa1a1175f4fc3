use Rattle.std.proofs.Common.{◌≡◌, ◌<◌, map}
use Rattle.bt_end.specs.Sturdy.{IsFetched}
use Rattle.bt_session.specs.Reports.{block_of}
use Rattle.bt_session.proofs.Blocks.{blocks_below}
use Rattle.bt_session.proofs.report.copy_blocks.Given as goal

-- the blocks that were found
abbrev pub invariant-pieces : goal.invariant-pieces
invariant-pieces l = record {
  found : map block_of l.blocks.items ≡ blocks_below l.piece l.end.end.part;
  fetched : 0 < l.piece → IsFetched l.end.end.part;
}
