-- What the devices of std and of memory tell: their bytes and their counts.
use Rattle.std.specs.Prelude.{ℕ, List, drop, Option, vec_capacity}
use Rattle.bt_io.specs.Seen.{SourceSeen, TargetSeen}
use Rattle.bt_io.specs.declared.host.Host.{Host}
use Rattle.bt_io.specs.declared.memory.MemSource.{MemSource}
use Rattle.bt_io.specs.declared.memory.MemTarget.{MemTarget}

-- how many calls were made, how many failed, and how many reads gave the end
pub record Counts : Type 0 where
  pub calls : ℕ
  pub failed : ℕ
  pub ends : ℕ

abbrev pub no_calls : Counts
no_calls = record { calls = 0; failed = 0; ends = 0 }

abbrev pub source_seen : Option (List ℕ) → Counts → SourceSeen
source_seen left c = record { left = left; reads = c.calls; failed = c.failed; ends = c.ends }

abbrev pub target_seen : Option (List ℕ) → Counts → TargetSeen
target_seen held c = record { held = held; writes = c.calls; failed = c.failed }

-- ---- std's readers and writers

abbrev pub host_device : {T : Type 0} → Host T → T
host_device h = h.device

abbrev pub host_counts : {T : Type 0} → Host T → Counts
host_counts h = record { calls = h.calls; failed = h.failed; ends = h.ends }

-- ---- memory: the bytes, how many move in a call at most, the call that fails

abbrev pub source_left : MemSource → List ℕ
source_left s = drop s.at s.bytes.items

abbrev pub source_most : MemSource → ℕ
source_most s = s.most

abbrev pub source_fails_at : MemSource → Option ℕ
source_fails_at s = s.fails_at

abbrev pub source_counts : MemSource → Counts
source_counts s = record { calls = s.calls; failed = s.failed; ends = s.ends }

abbrev pub target_held : MemTarget → List ℕ
target_held t = t.bytes.items

-- how many bytes it has room for without a growth
abbrev pub target_room : MemTarget → ℕ
target_room t = vec_capacity t.bytes

abbrev pub target_most : MemTarget → ℕ
target_most t = t.most

abbrev pub target_fails_at : MemTarget → Option ℕ
target_fails_at t = t.fails_at

abbrev pub target_counts : MemTarget → Counts
target_counts t = record { calls = t.calls; failed = t.failed; ends = 0 }
