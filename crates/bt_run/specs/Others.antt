-- What the other direction says of the receiver, where no option says it.
use Rattle.std.specs.Prelude.{◌≡◌, Result, Ok, Err, if◌then◌else◌}
use Rattle.bt_ext.specs.Ids.{registered, metadata_id, donthave_id}
use Rattle.bt_io.specs.Seen.{SourceSeen}
use Rattle.bt_wire.specs.declared.context.Own.{Own}
use Rattle.bt_jobs.specs.declared.other.Announced.{Announced}
use Rattle.bt_jobs.specs.declared.other.OtherError.{OtherError}
use Rattle.bt_jobs.specs.Others.{IsLearnt}
use Rattle.bt_run.specs.declared.commands.Given.{Given}

-- What an option gives stays; the rest of what the receiver's own stream says takes the place of the defaults. Where the ids of
-- both extensions are then equal, that of `ut_metadata` alone counts.
abbrev pub informed : Own → Given → Announced → Own
informed own given said =
    record own {
      reserved = if given.reserved then own.reserved else said.reserved;
      reg = registered (if given.metadata_id then metadata_id own.reg else said.metadata) (if given.donthave_id then donthave_id own.reg else said.donthave);
    }

abbrev pub informed_as : Own → Given → Result Announced OtherError → Result Own OtherError
informed_as own given (Ok said) = Ok (informed own given said)
informed_as own given (Err e) = Err e

-- the receiver is informed by what was learnt of the other direction
abbrev pub IsInformed : Own → Given → SourceSeen → SourceSeen → Result Own OtherError → Type 0
IsInformed own given before after r = (a : Result Announced OtherError) × IsLearnt before after a × (r ≡ informed_as own given a)
