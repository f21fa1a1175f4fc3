-- What was seen of the source of a capture file.
use Rattle.std.specs.Prelude.{◌≡◌}
use Rattle.std.specs.Io.KnownBytes.{IsAtEnd}
use Rattle.bt_io.specs.Counts.{one_more}
use Rattle.bt_io.specs.Seen.{SourceSeen}

-- no read gave the end, and none failed
abbrev pub HasGone : SourceSeen → SourceSeen → Type 0
HasGone before after = (after.ends ≡ before.ends) × (after.failed ≡ before.failed)

-- One read gave the end, and none failed. If the bytes that are left are known, there is none.
pub record HasEnded (before after : SourceSeen) : Type 0 where
  pub ends : after.ends ≡ one_more before.ends
  pub failed : after.failed ≡ before.failed
  pub none_left : IsAtEnd after.left

-- one read failed, and none gave the end
abbrev pub HasFailed : SourceSeen → SourceSeen → Type 0
HasFailed before after = (after.ends ≡ before.ends) × (after.failed ≡ one_more before.failed)
