use Rattle.std.proofs.Common.{◌≡◌, ◌++◌, map}
use Rattle.form_urlencoded.specs.Parse.{raw_pairs_left}
use Rattle.bt_magnet.specs.Links.{decoded, pair_of, pairs_of}
use Rattle.bt_magnet.proofs.pairs.pairs.Given as goal

-- the pairs that are left come after those so far
abbrev pub invariant-loop-key : goal.invariant-loop-key
invariant-loop-key l = map pair_of l.pairs.items ++ map decoded (raw_pairs_left l.key-iterator) ≡ pairs_of l.query
