-- For private contracts: the places of a fetch from many peers.
use Rattle.std.specs.Prelude.{ℕ, ◌+◌, ◌-◌, ◌*◌, ◌<◌, ◌≤◌, ◌⊎◌, Bool, true, false, Option, Some, None, Result, Ok, ⊤}
use Rattle.bt_fetch.specs.Listings.{Listing}
use Rattle.bt_fetch.specs.Logs.{Stage, Going, Won}
use Rattle.bt_fetch.specs.declared.talk.Talk.{Talk}
use Rattle.bt_fetch.specs.declared.turn.Turn.{Turn}
use Rattle.bt_fetch.specs.declared.turn.Turn.TheVariants as turn
use Rattle.bt_fetch.specs.declared.turn.Round.{Round}
use Rattle.bt_fetch.specs.declared.turn.Round.TheVariants as round

-- how many more steps a place may make with its connection, and one for its end
abbrev pub weight : Option ℕ → ℕ
weight None = 0
weight (Some left) = left + 1

-- what all addresses that may come may cost: the looks at a link, and the steps at a place
abbrev pub cost : ℕ → ℕ
cost rest = 8589934596 * rest

-- what the addresses may cost that may still come to so many, and how often the device may still say that more may come
abbrev pub outlook : Listing → ℕ → ℕ
outlook l known = cost (2 * (l.most - known)) + l.looks

abbrev pub is_free : Turn → Bool
is_free turn.Free = true
is_free other = false

abbrev pub stage_by : {E : Type 0} → Result Turn E → Stage
stage_by (Ok turn.Won) = Won
stage_by other = Going

abbrev pub is_over : Round → Bool
is_over round.Over = true
is_over other = false

abbrev pub is_won : Round → Bool
is_won (round.Won k) = true
is_won other = false

-- where a place won, this is so of its number
abbrev pub IfWon : Round → (ℕ → Type 0) → Type 0
IfWon (round.Won k) P = P k
IfWon other P = ⊤

abbrev pub stage_at : {E : Type 0} → Result Round E → Stage
stage_at (Ok (round.Won k)) = Won
stage_at other = Going

abbrev pub stage_when : {E : Type 0} → Result (Option ℕ) E → Stage
stage_when (Ok (Some k)) = Won
stage_when other = Going

-- The patience of a connection that waits isn't over, by its own clock of seconds or by the device's of milliseconds.
abbrev pub IsPatient : (patience time clock : ℕ) → Talk → Type 0
IsPatient patience time clock t = (clock ≤ t.watch.since + patience) ⊎ (time < t.heard + 1000 * patience)
