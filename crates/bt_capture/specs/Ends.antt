-- How a file ended, or why it can't be read on.
use Rattle.std.specs.Prelude.{◌≡◌, ◌<◌, ◌≤◌, ◌⊎◌, [], length, Bool, true, false, Option, Some, None, Result, Ok, Err}
use Rattle.bt_io.specs.Seen.{SourceSeen}
use Rattle.bt_pcap.specs.declared.fault.FileFault.{FileFault}
use Rattle.bt_pcap.specs.declared.fault.FileFault.TheVariants.{NoCapture}
use Rattle.bt_capture.specs.declared.ending.Ending.{Ending}
use Rattle.bt_capture.specs.declared.ending.Ending.TheVariants as ending
use Rattle.bt_capture.specs.declared.ending.Stop.{Stop}
use Rattle.bt_capture.specs.declared.ending.Stop.TheVariants.{File, Read, Fault}
use Rattle.bt_capture.specs.declared.packets.FileEnd.{FileEnd}
use Rattle.bt_capture.specs.declared.packets.FileEnd.TheVariants.{Whole, Cut}
use Rattle.bt_capture.specs.Readings.{Reading, Waits, IsFaulty}
use Rattle.bt_capture.specs.Sees.{HasGone, HasEnded, HasFailed}

-- No byte is left of an item, or some are; a file of fewer than four bytes is none.
abbrev pub IsEnded : Reading → Result FileEnd FileFault → Type 0
IsEnded r (Ok Whole) = (4 ≤ r.bytes) × (r.skip ≡ 0) × (r.held ≡ [])
IsEnded r (Ok Cut) = (4 ≤ r.bytes) × ((0 < r.skip) ⊎ (0 < length r.held))
IsEnded r (Err f) = (f ≡ NoCapture) × (r.bytes < 4)

-- More bytes are needed, but a read gave the end: the file ended so.
pub record IsReadToEnd (x : Result FileEnd FileFault) (r : Reading) (before after : SourceSeen) : Type 0 where
  pub waits : Waits r
  pub ended : IsEnded r x
  pub seen : HasEnded before after

-- The bytes that are held can't begin an item, and no read gave the end or failed. Or a read gave the end of a file of fewer than four bytes.
abbrev pub IsBroken : FileFault → Reading → SourceSeen → SourceSeen → Type 0
IsBroken f r before after = (IsFaulty r f × HasGone before after) ⊎ IsReadToEnd (Err f) r before after

-- A read gave the end, after a whole item or inside one; or the file is broken; or more bytes are needed, and the read of them failed.
abbrev pub HasEndedSo : Ending → Reading → SourceSeen → SourceSeen → Type 0
HasEndedSo ending.Whole r before after = IsReadToEnd (Ok Whole) r before after
HasEndedSo ending.Cut r before after = IsReadToEnd (Ok Cut) r before after
HasEndedSo (ending.Broken f) r before after = IsBroken f r before after
HasEndedSo ending.Failed r before after = Waits r × HasFailed before after

-- ---- for private contracts

abbrev pub ending_by : FileEnd → Ending
ending_by Whole = ending.Whole
ending_by Cut = ending.Cut

-- why the file can't be read on; nothing is said of a fault of the command
abbrev pub IsWhy : Stop → Reading → SourceSeen → SourceSeen → Type 0
IsWhy (File f) r before after = HasEndedSo (ending.Broken f) r before after
IsWhy Read r before after = HasEndedSo ending.Failed r before after
IsWhy (Fault f) r before after = Unit {0}

-- the same, if nothing was read
abbrev pub IsWhyHeld : Stop → Reading → Type 0
IsWhyHeld (File f) r = IsFaulty r f
IsWhyHeld Read r = ⊥
IsWhyHeld (Fault f) r = Unit {0}

-- a read that tells whether a byte came
abbrev pub IsMore : Result Bool Stop → Reading → SourceSeen → SourceSeen → Type 0
IsMore (Ok true) r before after = HasGone before after
IsMore (Ok false) r before after = Waits r × HasEnded before after
IsMore (Err s) r before after = IsWhy s r before after

-- all packets were taken
abbrev pub IsAllRead : Result FileEnd Stop → Reading → SourceSeen → SourceSeen → Type 0
IsAllRead (Ok e) r before after = IsReadToEnd (Ok e) r before after
IsAllRead (Err s) r before after = IsWhy s r before after

-- a turn that tells how the file ended, if it did
abbrev pub IsTurn : Result (Option FileEnd) Stop → Reading → SourceSeen → SourceSeen → Type 0
IsTurn (Ok None) r before after = HasGone before after
IsTurn (Ok (Some e)) r before after = IsReadToEnd (Ok e) r before after
IsTurn (Err s) r before after = IsWhy s r before after
