use Rattle.std.proofs.Common.{◌≡◌, ◌++◌, drop, map, string_bytes}
use Rattle.bt_cli.specs.Announced.{tiers_of}
use Rattle.bt_cli.proofs.announced.push_tiers.Given as goal

-- the trackers that are left come after those so far
abbrev pub invariant-loop-tracker : goal.invariant-loop-tracker
invariant-loop-tracker l =
    l.fn.out.items ++ tiers_of (map string_bytes l.trackers) ≡ l.out.items ++ tiers_of (map string_bytes (drop l.tracker-index l.trackers))
