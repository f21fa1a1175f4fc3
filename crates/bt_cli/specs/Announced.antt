-- What a .torrent says of the trackers of a magnet link.
use Rattle.std.specs.Prelude.{List, [], ◌∷◌, ◌++◌, ℕ, Option, None, Some, codes, map, string_bytes, if◌then◌else◌}
use Rattle.std.specs.List.{flat_map}
use Rattle.bt_bencode.specs.Bencoding.{ben_string}
use Rattle.bt_cli.specs.declared.fetch.FetchJob.{FetchJob}

-- a list of one tracker
abbrev pub tier_of : List ℕ → List ℕ
tier_of tracker = codes "l" ++ (ben_string tracker ++ codes "e")

abbrev pub tiers_of : List (List ℕ) → List ℕ
tiers_of trackers = flat_map tier_of trackers

-- the first tracker as `announce` (BEP 3), and each in a tier of its own as `announce-list` (BEP 12)
abbrev pub announced_by : List (List ℕ) → List ℕ
announced_by [] = []
announced_by (first ∷ rest) = codes "8:announce" ++ (ben_string first ++ (codes "13:announce-listl" ++ (tiers_of (first ∷ rest) ++ codes "e")))

-- the pairs in front of `info`, where a .torrent is asked for
abbrev pub pairs_of_job : FetchJob → Option (List ℕ)
pairs_of_job job = if job.torrent then Some (announced_by (map string_bytes job.magnet.trackers.items)) else None
