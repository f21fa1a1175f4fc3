-- Time stamps in nanoseconds.
use Rattle.std.specs.Prelude.{ℕ, ◌+◌, ◌-◌, ◌*◌, ◌/◌, ◌^◌, ℤ, pos, negsuc, min, if◌then◌else◌, nat_le}

-- the time stamps in a second, by the option if_tsresol (draft-ietf-opsawg-pcapng 4.2): a power of 2 if the highest bit is set, else of 10
abbrev pub unit_of : ℕ → ℕ
unit_of v = if nat_le 128 v then 2 ^ (v - 128) else 10 ^ v

-- A time that the seconds of the option if_tsoffset are added to (draft-ietf-opsawg-pcapng 4.2). A sum before 1970 counts as 0.
abbrev pub moved : ℤ → ℕ → ℕ
moved (pos seconds) nanos = nanos + seconds * 1000000000
moved (negsuc less) nanos = nanos - (less + 1) * 1000000000

-- the nanoseconds of a time stamp of a pcapng file, at most the greatest number of 64 bits
unfoldable pub nanos_of : ℕ → ℤ → ℕ → ℕ
nanos_of v offset ticks = min (moved offset (ticks * 1000000000 / unit_of v)) (2 ^ 64 - 1)

-- the nanoseconds of a time stamp of a pcap file, whose fraction counts this many nanoseconds
abbrev pub nanos_in : ℕ → ℕ → ℕ → ℕ
nanos_in scale seconds fraction = seconds * 1000000000 + fraction * scale
