-- An outbox: what it holds, and what goes from its front to a target.
use Rattle.std.specs.Prelude.{◌≡◌, ℕ, ◌+◌, ◌-◌, ◌≤◌, List, length, take, drop}
use Rattle.std.specs.Io.KnownBytes.{Appends}
use Rattle.bt_io.specs.Seen.{TargetSeen}

-- the bytes, and how many more surely find room
pub record Outgoing : Type 0 where
  pub bytes : List ℕ
  pub room : ℕ

-- of these bytes, in a buffer that was made for size bytes
abbrev pub outgoing : List ℕ → ℕ → Outgoing
outgoing bytes size = record { bytes = bytes; room = size - length bytes }

-- without the first n bytes, in whose place there is room again
abbrev pub without_front : ℕ → Outgoing → Outgoing
without_front n o = record { bytes = drop n o.bytes; room = o.room + n }

-- the target took the first n bytes and no others, and just these are gone
pub record Sends (old new : Outgoing) (before after : TargetSeen) (n : ℕ) : Type 0 where
  pub within : n ≤ length old.bytes
  pub sent : Appends before.held after.held (take n old.bytes)
  pub left : new ≡ without_front n old
