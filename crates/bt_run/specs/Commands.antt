-- The jobs, their receivers, and the exit status.
use Rattle.std.specs.Prelude.{◌≡◌, ℕ, ◌≤◌, List, false, Option, Some, None, Result, Ok, Err, codes, if◌then◌else◌, Bool, true}
use Rattle.std.specs.Str.{bytes_eq}
use Rattle.bt_ext.specs.declared.ids.Rules.{Rules}
use Rattle.bt_ext.specs.declared.ids.Rules.TheVariants.{Free, Bep}
use Rattle.bt_ext.specs.Ids.{metadata_only}
use Rattle.bt_wire.specs.declared.context.Own.{Own}
use Rattle.bt_run.specs.declared.commands.Job.{Job}
use Rattle.bt_run.specs.declared.commands.Job.TheVariants.{Show, Json, Check, Unpack, Pack}
use Rattle.bt_run.specs.declared.commands.Notice.{Notice}
use Rattle.bt_run.specs.declared.commands.Notice.TheVariants.{Help, Version, Usage}
use Rattle.bt_text.specs.declared.ended.Ended.{Ended}
use Rattle.bt_text.specs.declared.ended.Ended.TheVariants.{Accepted, Refused}
use Rattle.bt_text.specs.declared.ended.PackEnd.{PackEnd}
use Rattle.bt_text.specs.declared.ended.PackEnd.TheVariants as packs
use Rattle.bt_text.specs.declared.ended.ToolFault.{ToolFault}

-- the job of a command
abbrev pub job_of : List ℕ → Option Job
job_of name =
    if bytes_eq name (codes "show") then Some Show
    else if bytes_eq name (codes "check") then Some Check
    else if bytes_eq name (codes "unpack") then Some Unpack
    else if bytes_eq name (codes "pack") then Some Pack
    else None

-- `show` with `--json`; no other job changes
abbrev pub as_json : Bool → Job → Job
as_json false job = job
as_json true Show = Json
as_json true Json = Json
as_json true Check = Check
as_json true Unpack = Unpack
as_json true Pack = Pack

-- what the standards ask of a sender is judged where the verdict alone is wanted
abbrev pub default_rules : Job → Rules
default_rules Show = Free
default_rules Json = Free
default_rules Check = Bep
default_rules Unpack = Free
default_rules Pack = Free

-- the receiver where no option is given
abbrev pub IsDefault : Own → Type 0
IsDefault own =
    (own ≡ record { reserved = record { 0 = 0x100005 }; info_hash = None; pieces = None; reg = own.reg; rules = Free; limit = 262144 })
    × (own.reg ≡ metadata_only (Some 3))

-- a limit that a receiver may have
abbrev pub HasLimit : Own → Type 0
HasLimit own = (1 ≤ own.limit) × (own.limit ≤ 1048576)

-- a limit that an end may have
abbrev pub HasLoopLimit : ℕ → Type 0
HasLoopLimit limit = (32768 ≤ limit) × (limit ≤ 1048576)

-- 0 with help and with the version, 2 with words that are no command line
abbrev pub notice_status : Notice → ℕ
notice_status Help = 0
notice_status Version = 0
notice_status Usage = 2

-- 0 for an accepted stream, 1 for a refused one, 3 for a fault
abbrev pub status_of : Result Ended ToolFault → ℕ
status_of (Ok (Accepted messages bytes)) = 0
status_of (Ok (Refused r)) = 1
status_of (Err fault) = 3

abbrev pub pack_status_of : Result PackEnd ToolFault → ℕ
pack_status_of (Ok (packs.Accepted messages bytes)) = 0
pack_status_of (Ok (packs.Refused line reason)) = 1
pack_status_of (Err fault) = 3
