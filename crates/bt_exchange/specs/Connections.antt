-- What is seen of a connection.
use Rattle.std.specs.Prelude.{◌≡◌, ◌==◌, ℕ, ◌≤◌, ◌&&◌, nat_lt, List, length, take, Option, Some, None, Result, Ok, Err}
use Rattle.std.specs.Io.KnownBytes.{Consumes, Appends, Keeps}
use Rattle.bt_io.specs.Counts.{one_more, counted}

-- How many calls were made; how many of them gave the end; how many failed, or took nothing of what isn't empty, each up to
-- 2^64 - 1; and the seconds that its clock showed last.
pub record Counts : Type 0 where
  pub calls : ℕ
  pub ends : ℕ
  pub failed : ℕ
  pub clock : ℕ

-- the bytes that are left to be read and those that it took, where they are known
pub record Seen : Type 0 where
  pub coming : Option (List ℕ)
  pub gone : Option (List ℕ)
  pub counts : Counts

-- what the other side of a wire sees: what is left to be read at one side is what the other one sent
abbrev pub across : Seen → Seen
across s = record { coming = s.gone; gone = s.coming; counts = s.counts }

abbrev pub read_counts : {E : Type 0} → Result (Option ℕ) E → ℕ → Counts → Counts
read_counts (Ok (Some n)) room c = record c { calls = one_more c.calls; ends = counted ((n == 0) && nat_lt 0 room) c.ends }
read_counts (Ok None) room c = record c { calls = one_more c.calls }
read_counts (Err e) room c = record c { calls = one_more c.calls; failed = one_more c.failed }

abbrev pub write_counts : {E : Type 0} → Result (Option ℕ) E → ℕ → Counts → Counts
write_counts (Ok (Some n)) given c = record c { calls = one_more c.calls; failed = counted ((n == 0) && nat_lt 0 given) c.failed }
write_counts (Ok None) given c = record c { calls = one_more c.calls }
write_counts (Err e) given c = record c { calls = one_more c.calls; failed = one_more c.failed }

-- its clock was read
abbrev pub at_time : ℕ → Seen → Seen
at_time t s = record s { counts = record s.counts { clock = t } }

-- the bytes at the buffer's start were read, and no others
abbrev pub Reads : {E : Type 0} → Seen → Seen → Result (Option ℕ) E → List ℕ → Type 0
Reads old new (Ok (Some n)) buffer = (n ≤ length buffer) × Consumes old.coming new.coming (take n buffer) × (new.gone ≡ old.gone)
Reads old new (Ok None) buffer = (new.coming ≡ old.coming) × (new.gone ≡ old.gone)
Reads old new (Err e) buffer = Keeps old.coming new.coming × (new.gone ≡ old.gone)

-- the first n bytes were taken, and no others
abbrev pub Writes : {E : Type 0} → Seen → Seen → Result (Option ℕ) E → List ℕ → Type 0
Writes old new (Ok (Some n)) bytes = (n ≤ length bytes) × Appends old.gone new.gone (take n bytes) × (new.coming ≡ old.coming)
Writes old new (Ok None) bytes = (new.coming ≡ old.coming) × (new.gone ≡ old.gone)
Writes old new (Err e) bytes = (new.coming ≡ old.coming) × Keeps old.gone new.gone
