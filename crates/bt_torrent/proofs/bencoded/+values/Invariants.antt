-- What passes after what was passed makes the whole pass, and what the whole passes the rest passes too.
use Rattle.std.proofs.Common.{◌≤◌, ℕ, ◌+◌, ◌*◌, List, length}
use Rattle.bt_torrent.specs.Bencoded.{PassesItems, PassesPairs}
use Rattle.bt_torrent.proofs.bencoded.+values.Given as goal

abbrev pub decreases-after_value : goal.decreases-after_value
decreases-after_value l = 2 * l.room

abbrev pub decreases-after_items : goal.decreases-after_items
decreases-after_items l = 2 * l.room + 1

abbrev pub decreases-after_pairs : goal.decreases-after_pairs
decreases-after_pairs l = 2 * l.room + 1

abbrev pub invariant-after_items-loop-rest : goal.invariant-after_items-loop-rest
invariant-after_items-loop-rest l = record {
  within : length l.rest ≤ length l.fn.bytes;
  passes : (more : List ℕ) → PassesItems l.room l.rest more → PassesItems l.room l.fn.bytes more;
  back : (more : List ℕ) → PassesItems l.room l.fn.bytes more → PassesItems l.room l.rest more;
}

abbrev pub decreases-after_items-loop-rest : goal.decreases-after_items-loop-rest
decreases-after_items-loop-rest l = length l.rest

abbrev pub invariant-after_pairs-loop-rest : goal.invariant-after_pairs-loop-rest
invariant-after_pairs-loop-rest l = record {
  within : length l.rest ≤ length l.fn.bytes;
  passes : (more : List ℕ) → PassesPairs l.room l.rest more → PassesPairs l.room l.fn.bytes more;
  back : (more : List ℕ) → PassesPairs l.room l.fn.bytes more → PassesPairs l.room l.rest more;
}

abbrev pub decreases-after_pairs-loop-rest : goal.decreases-after_pairs-loop-rest
decreases-after_pairs-loop-rest l = length l.rest
