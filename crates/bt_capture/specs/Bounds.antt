-- How many connections are kept, and how much memory they take together.
use Rattle.std.specs.Prelude.{◌≡◌, ◌≤◌, ℕ, List, length}
use Rattle.std.specs.List.{sum_by}
use Rattle.bt_capture.specs.Tables.{Held}
use Rattle.bt_capture.specs.declared.connections.Connections.{Connections}
use Rattle.bt_capture.specs.declared.pair.Pair.{Pair}

-- as the connection noted after its last segment
abbrev pub size_of : Pair × Held → ℕ
size_of e = e.1.value.size

abbrev pub bytes_in : List (Pair × Held) → ℕ
bytes_in es = sum_by size_of es

-- The sum is known.
abbrev pub IsCounted : Connections → Type 0
IsCounted run = run.bytes ≡ bytes_in run.table

-- Those in the table take at most 128,000,000 bytes together, and there are at most 16,384 of them.
pub record IsBounded (run : Connections) : Type 0 where
  pub counted : IsCounted run
  pub bytes : bytes_in run.table ≤ 128000000
  pub count : length run.table ≤ 16384
