-- The last line of a search.
use Rattle.std.specs.Prelude.{◌==◌, ℕ, List, [], ◌++◌, if◌then◌else◌, codes, decimal}
use Rattle.bt_finding.specs.declared.summary.Counts.{Counts}

-- what a word for so many things ends with
abbrev pub plural : ℕ → List ℕ
plural n = if n == 1 then [] else codes "s"

-- a number and what is counted
abbrev pub so_many : ℕ → List ℕ → List ℕ
so_many n word = decimal n ++ (codes " " ++ (word ++ plural n))

abbrev pub passed_words : ℕ → List ℕ
passed_words n =
    if n == 0 then [] else (if n == 1 then codes "; 1 private address passed over (--local)"
    else codes "; " ++ (decimal n ++ codes " private addresses passed over (--local)"))

abbrev pub summary_words : Counts → ℕ → List ℕ
summary_words counts found =
    codes "asked " ++ (so_many counts.trackers (codes "tracker") ++ (codes ", " ++ (so_many counts.nodes (codes "node")
    ++ (codes "; " ++ (so_many found (codes "peer") ++ (passed_words counts.private ++ codes "\n"))))))
