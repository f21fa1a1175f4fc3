-- What the calls of std's streams and clocks become.
use Rattle.std.specs.Prelude.{◌≡◌, ℕ, ◌/◌, ◌<◌, ◌≤◌, Bool, true, false, List, length, take, Option, Some, None, Result, Ok, Err}
use Rattle.std.specs.Duration.{as_nanos}
use Rattle.std.specs.IoError.{error_kind}
use Rattle.std.specs.Io.KnownBytes.{Consumes, Appends, Keeps, IsAtEnd}
use Rattle.std.specs.declared.io.Error.{Error}
use Rattle.std.specs.declared.io.ErrorKind.{ErrorKind}
use Rattle.std.specs.declared.io.ErrorKind.TheVariants as kind
use Rattle.std.specs.declared.time.Duration.{Duration}

-- a call that has to wait, or that a signal broke off
abbrev pub is_wait : ErrorKind → Bool
is_wait kind.WouldBlock = true
is_wait kind.TimedOut = true
is_wait kind.Interrupted = true
is_wait _ = false

-- The call would have to wait: the socket isn't ready. After a signal or a time limit nothing is known of the socket.
abbrev pub would_wait : ErrorKind → Bool
would_wait kind.WouldBlock = true
would_wait _ = false

-- What std answers becomes the answer of a connection: nothing can be moved yet if the call has to wait.
abbrev pub IsMovedBy : {F : Type 0} → Result ℕ Error → Result (Option ℕ) F → Type 0
IsMovedBy (Ok n) r = r ≡ Ok (Some n)
IsMovedBy (Err e) (Ok (Some n)) = ⊥
IsMovedBy (Err e) (Ok None) = is_wait (error_kind e) ≡ true
IsMovedBy (Err e) (Err f) = is_wait (error_kind e) ≡ false

-- One read: it takes the bytes that it gives and no others, and gives 0 only at the end or with no room.
abbrev pub IsReadOnce : {F : Type 0} → Option (List ℕ) → Option (List ℕ) → Result (Option ℕ) F → List ℕ → Type 0
IsReadOnce old new (Ok (Some n)) into = (n ≤ length into) × Consumes old new (take n into) × (n ≡ 0 → 0 < length into → IsAtEnd new)
IsReadOnce old new (Ok None) into = Keeps old new
IsReadOnce old new (Err f) into = Keeps old new

-- One write: the bytes that it takes are appended, and no others.
abbrev pub IsWrittenOnce : {F : Type 0} → Option (List ℕ) → Option (List ℕ) → Result (Option ℕ) F → List ℕ → Type 0
IsWrittenOnce old new (Ok (Some n)) from = (n ≤ length from) × Appends old new (take n from)
IsWrittenOnce old new (Ok None) from = Keeps old new
IsWrittenOnce old new (Err f) from = Keeps old new

-- the seconds of a clock's answer; after an error the time that it gave last
abbrev pub seconds_of : Result Duration Error → ℕ → ℕ
seconds_of (Ok time) last = as_nanos time / 1_000_000_000
seconds_of (Err e) last = last
