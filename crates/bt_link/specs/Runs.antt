-- What a run of a script does to its reader and its writer.
use Rattle.std.specs.Prelude.{◌≡◌, ◌≢◌, ℕ, ◌+◌, ◌<◌, ◌≤◌, ⊤, List, [], ◌++◌, length, codes, Option, Some, None, Result, Ok, Err, MatchResult}
use Rattle.std.specs.Global.{Vec}
use Rattle.std.specs.Io.KnownBytes.{Consumes, Appends}
use Rattle.bt_io.specs.Seen.{SourceSeen, TargetSeen, Devices, EndRead, ReadFailed, WriteFailed, AppendsPrefix}
use Rattle.bt_end.specs.declared.config.EndError.{EndError}
use Rattle.bt_end.specs.declared.config.EndError.TheVariants as ends
use Rattle.bt_end.specs.Configs.{end_for}
use Rattle.bt_session.specs.declared.report.LinkError.{LinkError}
use Rattle.bt_session.specs.declared.report.LinkError.TheVariants as errors
use Rattle.bt_session.specs.declared.report.LinkReport.{LinkReport}
use Rattle.bt_session.specs.Reports.{IsRun, IsUnrun}
use Rattle.bt_text.specs.declared.ended.ToolFault.{ToolFault}
use Rattle.bt_text.specs.declared.ended.ToolFault.TheVariants.{Read, Write, Memory, Turns, Net}
use Rattle.bt_text.specs.declared.ended.ScriptReason.TheVariants.{Syntax as SyntaxReason}
use Rattle.bt_text.specs.Lines.{refused_line}
use Rattle.bt_link.specs.declared.script.Script.{Script}
use Rattle.bt_link.specs.declared.run.RigEnd.{RigEnd}
use Rattle.bt_link.specs.declared.run.RigEnd.TheVariants.{Ran, Syntax, Size, Unrun}
use Rattle.bt_link.specs.Scripts.{plan_of, IsScript, IsWrongAt}
use Rattle.bt_link.specs.Shown.{report_lines}

-- as many bytes as a script may have
abbrev pub most_script : ℕ
most_script = 16777216

-- ---- reading

-- the whole input was read, or more of it than a script may have; or a read failed, or memory was refused
abbrev pub IsInput : SourceSeen → SourceSeen → Result (Option (Vec ℕ)) ToolFault → Type 0
IsInput before after (Ok (Some text)) = Consumes before.left after.left text.items × (length text.items ≤ most_script) × EndRead before after
    × (after.ends ≤ before.ends + 1)
IsInput before after (Ok None) = (text : List ℕ) × Consumes before.left after.left text × (most_script < length text)
IsInput before after (Err Read) = (text : List ℕ) × Consumes before.left after.left text × ReadFailed before after
IsInput before after (Err Memory) = (text : List ℕ) × Consumes before.left after.left text
IsInput before after (Err Write) = ⊥
IsInput before after (Err Turns) = ⊥
IsInput before after (Err Net) = ⊥

-- ---- running

-- what came of a script's run
abbrev pub IsRunOf : Script → LinkReport → Type 0
IsRunOf s r = IsRun (end_for s.left) (end_for s.right) s.steps.items r

abbrev pub IsUnrunOf : Script → LinkError → Type 0
IsUnrunOf s e = IsUnrun s.left s.right s.steps.items e × (e ≢ errors.Memory)

-- the bytes are written, or a prefix of them, where a write failed
abbrev pub IsWritten : List ℕ → TargetSeen → TargetSeen → Result RigEnd ToolFault → Type 0
IsWritten bytes before after (Ok Ran) = Appends before.held after.held bytes
IsWritten bytes before after (Err Write) = AppendsPrefix before.held after.held bytes × WriteFailed before after
IsWritten bytes before after other = ⊥

-- the lines of a report are written, or a prefix of them, where a write failed, or nothing
abbrev pub IsPrinted : LinkReport → TargetSeen → TargetSeen → Result RigEnd ToolFault → Type 0
IsPrinted r before after (Ok Ran) = Appends before.held after.held (report_lines r)
IsPrinted r before after (Err Write) = AppendsPrefix before.held after.held (report_lines r) × WriteFailed before after
IsPrinted r before after (Err Memory) = after.held ≡ before.held
IsPrinted r before after other = ⊥

-- what is written of a script: the report of its run; a prefix of that, where a write failed; or nothing
abbrev pub IsFinished : Script → TargetSeen → TargetSeen → Result RigEnd ToolFault → Type 0
IsFinished s before after (Ok Ran) = (r : LinkReport) × IsRunOf s r × Appends before.held after.held (report_lines r)
IsFinished s before after (Ok (Unrun e)) = IsUnrunOf s e × (after.held ≡ before.held)
IsFinished s before after (Err Write) =
    (r : LinkReport) × IsRunOf s r × AppendsPrefix before.held after.held (report_lines r) × WriteFailed before after
IsFinished s before after (Err Memory) = after.held ≡ before.held
IsFinished s before after other = ⊥

-- ---- all of it

-- what comes of an input: it is too long; or its first wrong line is named; or it is a script, which is finished. Nothing is
-- written but what is written of a script.
abbrev pub IsEnd : List ℕ → Option (List ℕ) → Option (List ℕ) → RigEnd → Type 0
IsEnd text held held' Size = (most_script < length text) × (held' ≡ held)
IsEnd text held held' (Syntax n) = IsWrongAt text n × (held' ≡ held)
IsEnd text held held' Ran = (s : Script) × IsScript text (plan_of s) × (r : LinkReport) × IsRunOf s r × Appends held held' (report_lines r)
IsEnd text held held' (Unrun e) = (s : Script) × IsScript text (plan_of s) × IsUnrunOf s e × (held' ≡ held)

-- the input's end was read, but where it is too long
abbrev pub IsTimely : Type 0 → RigEnd → Type 0
IsTimely AtEnd Size = ⊤
IsTimely AtEnd other = AtEnd

-- a read or a write failed, or memory was refused; after a failed write a prefix of the report is written, else nothing
abbrev pub IsFault : List ℕ → Type 0 → TargetSeen → TargetSeen → ToolFault → Type 0
IsFault text Unread before after Read = (after.held ≡ before.held) × Unread
IsFault text Unread before after Write =
    (s : Script) × IsScript text (plan_of s) × (r : LinkReport) × IsRunOf s r × AppendsPrefix before.held after.held (report_lines r)
    × WriteFailed before after
IsFault text Unread before after Memory = after.held ≡ before.held
IsFault text Unread before after Turns = ⊥
IsFault text Unread before after Net = ⊥

-- how the program ends on a text, where no read can fail
abbrev pub IsTextRun : List ℕ → TargetSeen → TargetSeen → Result RigEnd ToolFault → Type 0
IsTextRun text before after r = MatchResult r (IsEnd text before.held after.held) (IsFault text ⊥ before after)

-- what was read is the text, and this comes of it
abbrev pub IsRigRun : Devices → Devices → Result RigEnd ToolFault → Type 0
IsRigRun before after r =
    (text : List ℕ) × Consumes before.source.left after.source.left text
    × MatchResult r (λ e. IsEnd text before.target.held after.target.held e × IsTimely (EndRead before.source after.source) e)
    (λ f. IsFault text (ReadFailed before.source after.source) before.target after.target f)

-- ---- what standard error gets

abbrev pub end_error_name : EndError → List ℕ
end_error_name ends.BadLimit = codes "BadLimit"
end_error_name ends.BadConfig = codes "BadConfig"
end_error_name ends.BadSize = codes "BadSize"
end_error_name ends.Memory = codes "Memory"

abbrev pub link_error_name : LinkError → List ℕ
link_error_name errors.ConfigMismatch = codes "ConfigMismatch"
link_error_name (errors.End e) = end_error_name e
link_error_name errors.TooManySteps = codes "TooManySteps"
link_error_name errors.Memory = codes "Memory"

-- nothing where the link ran
abbrev pub complaint : RigEnd → List ℕ
complaint Ran = []
complaint (Syntax n) = refused_line n SyntaxReason
complaint Size = codes "refused size\n"
complaint (Unrun e) = codes "refused config " ++ (link_error_name e ++ codes "\n")

-- 0 where the link ran, 1 where the script is refused, 3 for a fault
abbrev pub status_of : Result RigEnd ToolFault → ℕ
status_of (Ok Ran) = 0
status_of (Ok other) = 1
status_of (Err fault) = 3
