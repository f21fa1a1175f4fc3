-- What is seen of a source and of a target.
use Rattle.std.specs.Prelude.{◌≡◌, ℕ, List, ◌++◌, Option}
use Rattle.std.specs.Io.KnownBytes.{Appends}
use Rattle.bt_io.specs.Counts.{Grew}

-- The bytes that are left to be read, where they are known; and how many reads were made, how many of them failed, and how many
-- gave the end, each up to 2^64 - 1.
pub record SourceSeen : Type 0 where
  pub left : Option (List ℕ)
  pub reads : ℕ
  pub failed : ℕ
  pub ends : ℕ

-- The bytes that it holds, where they are known; and how many writes were made, and how many of them failed or took nothing of
-- what isn't empty, each up to 2^64 - 1.
pub record TargetSeen : Type 0 where
  pub held : Option (List ℕ)
  pub writes : ℕ
  pub failed : ℕ

-- a source that is read and a target that is written
pub record Devices : Type 0 where
  pub source : SourceSeen
  pub target : TargetSeen

abbrev pub devices : SourceSeen → TargetSeen → Devices
devices source target = record { source = source; target = target }

-- a read gave the end
abbrev pub EndRead : SourceSeen → SourceSeen → Type 0
EndRead before after = Grew before.ends after.ends

abbrev pub ReadFailed : SourceSeen → SourceSeen → Type 0
ReadFailed before after = Grew before.failed after.failed

-- a write failed, or took nothing
abbrev pub WriteFailed : TargetSeen → TargetSeen → Type 0
WriteFailed before after = Grew before.failed after.failed

-- the bytes that are held grow by a prefix of the text
abbrev pub AppendsPrefix : Option (List ℕ) → Option (List ℕ) → List ℕ → Type 0
AppendsPrefix held held' text = (prefix : List ℕ) × (rest : List ℕ) × (text ≡ prefix ++ rest) × Appends held held' prefix
