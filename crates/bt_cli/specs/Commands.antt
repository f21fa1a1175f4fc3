-- What the command line asks for.
use Rattle.std.specs.Prelude.{◌≡◌, [], false, None}
use Rattle.clap.specs.declared.error.kind.ErrorKind.{ErrorKind}
use Rattle.clap.specs.declared.error.kind.ErrorKind.TheVariants as kinds
use Rattle.bt_fetch.specs.Wishes.{IsWish}
use Rattle.bt_run.specs.declared.commands.Hints.TheVariants.{Auto}
use Rattle.bt_run.specs.declared.commands.Job.TheVariants.{Show}
use Rattle.bt_run.specs.declared.commands.Notice.{Notice}
use Rattle.bt_run.specs.declared.commands.Notice.TheVariants.{Help, Version, Usage}
use Rattle.bt_run.specs.Commands.{HasLimit, HasLoopLimit, IsDefault}
use Rattle.bt_cli.specs.declared.commands.Asked.{Asked}
use Rattle.bt_cli.specs.declared.commands.Asked.TheVariants.{Run, Link, Capture, Fetch, Peers, Serve, Told, Loop}

-- a receiver that is asked for has such a limit, and so have the ends
abbrev pub IsLimited : Asked → Type 0
IsLimited (Run r) = HasLimit r.own
IsLimited (Link files) = Unit {0}
IsLimited (Capture request) = Unit {0}
IsLimited (Fetch job) = IsWish job.wish
IsLimited (Peers job) = Unit {0}
IsLimited (Serve job) = HasLoopLimit job.limit
IsLimited (Loop rules limit) = HasLoopLimit limit
IsLimited (Told notice text) = Unit {0}

-- a text of this kind is asked for
abbrev pub HasText : Notice → Asked → Type 0
HasText kind (Run r) = ⊥
HasText kind (Link files) = ⊥
HasText kind (Capture request) = ⊥
HasText kind (Fetch job) = ⊥
HasText kind (Peers job) = ⊥
HasText kind (Serve job) = ⊥
HasText kind (Loop rules limit) = ⊥
HasText kind (Told notice text) = notice ≡ kind

-- `show` of standard input is asked for, with the default receiver
abbrev pub IsShowByDefault : Asked → Type 0
IsShowByDefault (Run r) = (r.job ≡ Show) × IsDefault r.own × (r.given ≡ record { reserved = false; metadata_id = false; donthave_id = false })
    × (r.other ≡ None)
    × (r.hints ≡ Auto)
    × (r.files.items ≡ [])
IsShowByDefault (Link files) = ⊥
IsShowByDefault (Capture request) = ⊥
IsShowByDefault (Fetch job) = ⊥
IsShowByDefault (Peers job) = ⊥
IsShowByDefault (Serve job) = ⊥
IsShowByDefault (Loop rules limit) = ⊥
IsShowByDefault (Told notice text) = ⊥

-- clap's answer is help, the version, or a mistake; no text where it was out of memory
abbrev pub HasNotice : ErrorKind → Asked → Type 0
HasNotice kinds.OutOfMemory a = ⊥
HasNotice kinds.DisplayHelp a = HasText Help a
HasNotice kinds.DisplayVersion a = HasText Version a
HasNotice kind a = HasText Usage a
