-- How much is looked at: 2 ^ 20 bytes of a packet, and as many of an item as these take with the longest fields before them.
use Rattle.std.specs.Prelude.{ℕ}

abbrev pub keep : ℕ
keep = 1048576

abbrev pub need : ℕ
need = 1048604

-- The most bytes of a packet, 2 ^ 24: no link has longer ones. Of a pcapng block its padding and options count too.
abbrev pub longest : ℕ
longest = 16777216
