-- What a fetch says of its connections, and its summary.
use Rattle.std.specs.Prelude.{ℕ, ◌+◌, ◌-◌, ◌^◌, min, nat_le, Bool, true, List, ◌++◌, Option, Some, None, codes, decimal}
use Rattle.bt_wire.specs.Reasons.{reason_name}
use Rattle.bt_fetch.specs.declared.device.Ending.{Ending}
use Rattle.bt_fetch.specs.declared.device.Ending.TheVariants.{By, Left}
use Rattle.bt_fetch.specs.declared.device.Outcome.{Outcome}
use Rattle.bt_fetch.specs.declared.device.Outcome.TheVariants as outcome
use Rattle.bt_finding.specs.declared.summary.Counts.{Counts}
use Rattle.bt_cli.specs.declared.report.Tally.{Tally}

abbrev pub one_more : ℕ → ℕ
one_more n = min (n + 1) (2 ^ 32 - 1)

-- one more try, by how it ended
abbrev pub counted : Tally → Ending → Tally
counted t (By outcome.Silent) = record t { tried = one_more t.tried; silent = one_more t.silent }
counted t (By outcome.Unreachable) = record t { tried = one_more t.tried; unreachable = one_more t.unreachable }
counted t (By (outcome.Refused r)) = record t { tried = one_more t.tried; refused = one_more t.refused }
counted t other = record t { tried = one_more t.tried }

-- A line that was drawn at this time, in milliseconds, may be drawn again: at most every 50.
abbrev pub is_due : Option ℕ → ℕ → Bool
is_due None time = true
is_due (Some drawn) time = nat_le (drawn + 50) time

-- how long it took, and the tries
abbrev pub tally_words : ℕ → Tally → List ℕ
tally_words seconds t =
    decimal seconds ++ (codes " s tried=" ++ (decimal t.tried ++ (codes " silent=" ++ (decimal t.silent ++ (codes " unreachable="
    ++ (decimal t.unreachable ++ (codes " refused=" ++ (decimal t.refused ++ codes "\n"))))))))

-- ---- the lines as JSON objects (RFC 8259). A peer's name has no character that JSON escapes.

-- the word for how a connection ended
abbrev pub outcome_word : Outcome → List ℕ
outcome_word outcome.Fetched = codes "fetched"
outcome_word (outcome.Refused r) = codes "refused"
outcome_word outcome.Silent = codes "silent"
outcome_word outcome.Closed = codes "closed"
outcome_word outcome.Unreachable = codes "unreachable"
outcome_word outcome.Rejected = codes "rejected"
outcome_word outcome.Mismatch = codes "mismatch"
outcome_word outcome.Unasked = codes "unasked"
outcome_word outcome.NoMetadata = codes "no-metadata"

abbrev pub ending_word : Ending → List ℕ
ending_word Left = codes "left"
ending_word (By o) = outcome_word o

-- the numbers of the summary, after the name of the seconds
abbrev pub tally_fields : ℕ → Tally → List ℕ
tally_fields seconds t =
    decimal seconds ++ (codes ",\"tried\":" ++ (decimal t.tried ++ (codes ",\"silent\":" ++ (decimal t.silent
    ++ (codes ",\"unreachable\":" ++ (decimal t.unreachable ++ (codes ",\"refused\":" ++ (decimal t.refused ++ codes "}\n"))))))))

-- whom a search has asked, and how many peers it has found
abbrev pub asked_fields : Counts → ℕ → List ℕ
asked_fields counts found =
    codes "{\"trackers\":" ++ (decimal counts.trackers ++ (codes ",\"nodes\":" ++ (decimal counts.nodes ++ (codes ",\"found\":" ++ (decimal found
    ++ (codes ",\"private\":" ++ (decimal counts.private ++ codes "}\n")))))))
