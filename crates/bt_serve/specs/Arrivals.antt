-- What an error of a listener says (POSIX.1-2017, accept, ERRORS).
use Rattle.std.specs.Prelude.{Bool, true, false}
use Rattle.std.specs.declared.io.ErrorKind.{ErrorKind}
use Rattle.std.specs.declared.io.ErrorKind.TheVariants as kind

-- The error is that of one connection, which is gone: others may wait. It isn't that none waits, that memory or a descriptor is wanted
-- (EMFILE, ENFILE and ENOBUFS have no kind), or that the listener is none.
abbrev pub is_lost : ErrorKind → Bool
is_lost kind.WouldBlock = false
is_lost kind.OutOfMemory = false
is_lost kind.InvalidInput = false
is_lost kind.Uncategorized = false
is_lost _ = true
