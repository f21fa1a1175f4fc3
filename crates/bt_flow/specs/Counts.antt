-- Which captured bytes count, when a direction is closed, and gaps by their offsets.
use Rattle.std.specs.Prelude.{ℕ, ◌+◌, ◌-◌, ◌^◌, Bool, false, not, Option, Some, None, if◌then◌else◌, nat_lt}
use Rattle.bt_tcp.specs.declared.covered.Gap.{Gap}
use Rattle.bt_tcp.specs.declared.covered.Gaps.{Gaps}

-- There are some, and they end at the place 2^62 or before.
abbrev pub counts : ℕ → ℕ → Bool
counts at size = if nat_lt 0 size then not (nat_lt (2 ^ 62) (at + size)) else false

-- The FIN's place was reached, and its number acknowledged (RFC 9293 3.6).
abbrev pub is_closed_at : Option ℕ → Option ℕ → ℕ → Bool
is_closed_at (Some fin) (Some place) acked = if nat_lt place fin then false else nat_lt fin acked
is_closed_at (Some fin) None acked = false
is_closed_at None place acked = false

abbrev pub gap_from : ℕ → Option Gap → Option Gap
gap_from base None = None
gap_from base (Some gap) = Some (record { place = gap.place - base; length = gap.length })

-- with offsets from the base
abbrev pub from_base : ℕ → Gaps → Gaps
from_base base gaps = record { first = gap_from base gaps.first; count = gaps.count; sum = gaps.sum }
