-- What a read of a source did.
use Rattle.std.specs.Prelude.{ℕ, Bool, true, false, Result, Ok, Err}
use Rattle.bt_capture.specs.declared.fault.ReadFault.{ReadFault}
use Rattle.bt_capture.specs.declared.fault.ReadFault.TheVariants.{Failed, Memory}

-- the source was read: there was memory for it
abbrev pub was_read : Result ℕ ReadFault → Bool
was_read (Ok n) = true
was_read (Err Failed) = true
was_read (Err Memory) = false

-- the source's read failed
abbrev pub has_failed : Result ℕ ReadFault → Bool
has_failed (Ok n) = false
has_failed (Err Failed) = true
has_failed (Err Memory) = false
