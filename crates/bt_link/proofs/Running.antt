-- What comes of a script.
use Rattle.std.proofs.Common.{◌≡◌, ℕ, List, Option, Some, Result, Ok, Err, subst}
use Rattle.std.specs.Prelude.{MatchResult}
use Rattle.std.specs.Global.{Vec}
use Rattle.std.specs.Io.KnownBytes.{Consumes}
use Rattle.bt_io.specs.Seen.{SourceSeen, TargetSeen, devices, EndRead}
use Rattle.bt_session.specs.declared.report.LinkReport.{LinkReport}
use Rattle.bt_text.specs.declared.ended.ToolFault.{ToolFault}
use Rattle.bt_text.specs.declared.ended.ToolFault.TheVariants.{Read, Write, Memory, Turns, Net}
use Rattle.bt_link.specs.declared.script.Script.{Script}
use Rattle.bt_link.specs.declared.run.RigEnd.{RigEnd}
use Rattle.bt_link.specs.declared.run.RigEnd.TheVariants.{Ran, Syntax, Size, Unrun}
use Rattle.bt_link.specs.Scripts.{plan_of, IsScript, IsWrongAt}
use Rattle.bt_link.specs.Runs.{IsInput, IsPrinted, IsRunOf, IsFinished, IsTimely, IsTextRun, IsRigRun}

pub finished_so : (s : Script) (r : LinkReport) (h k : TargetSeen) (x : Result RigEnd ToolFault) → IsRunOf s r → IsPrinted r h k x
    → IsFinished s h k x
finished_so s r h k (Ok Ran) run p = (r, run, p)
finished_so s r h k (Ok (Syntax n)) run p = absurd p
finished_so s r h k (Ok Size) run p = absurd p
finished_so s r h k (Ok (Unrun e)) run p = absurd p
finished_so s r h k (Err Read) run p = absurd p
finished_so s r h k (Err Write) run p = (r, run, p.0, p.1)
finished_so s r h k (Err Memory) run p = p
finished_so s r h k (Err Turns) run p = absurd p
finished_so s r h k (Err Net) run p = absurd p

pub ended_so : (text : List ℕ) (s : Script) (h k : TargetSeen) (x : Result RigEnd ToolFault) → IsScript text (plan_of s)
    → IsFinished s h k x → IsTextRun text h k x
ended_so text s h k (Ok Ran) is p = (s, is, p.0, p.1, p.2)
ended_so text s h k (Ok (Syntax n)) is p = absurd p
ended_so text s h k (Ok Size) is p = absurd p
ended_so text s h k (Ok (Unrun e)) is p = (s, is, p.0, p.1)
ended_so text s h k (Err Read) is p = absurd p
ended_so text s h k (Err Write) is p = (s, is, p.0, p.1, p.2, p.3)
ended_so text s h k (Err Memory) is p = p
ended_so text s h k (Err Turns) is p = absurd p
ended_so text s h k (Err Net) is p = absurd p

timely : (E : Type 0) (e : RigEnd) → E → IsTimely E e
timely E Ran at = at
timely E (Syntax n) at = at
timely E Size at = tt
timely E (Unrun e) at = at

pub rig_so : (text : List ℕ) (l m : SourceSeen) (h k : TargetSeen) (x : Result RigEnd ToolFault) → Consumes l.left m.left text → EndRead l m → IsTextRun
    text h k x
    → IsRigRun (devices l h) (devices m k) x
rig_so text l m h k (Ok e) read at p = (text, read, (p, timely (EndRead l m) e at))
rig_so text l m h k (Err Read) read at p = absurd p.1
rig_so text l m h k (Err Write) read at p = (text, read, p)
rig_so text l m h k (Err Memory) read at p = (text, read, p)
rig_so text l m h k (Err Turns) read at p = absurd p
rig_so text l m h k (Err Net) read at p = absurd p

pub script_by : (text : List ℕ) (r : Result Script ℕ) (s : Script) → MatchResult r (λ s. IsScript text (plan_of s)) (IsWrongAt text) → r ≡ Ok s
    → IsScript text (plan_of s)
script_by text r s h e = subst (λ (x : Result Script ℕ). MatchResult x (λ s. IsScript text (plan_of s)) (IsWrongAt text)) e h

pub rig_by : {f : Option (Vec ℕ)} {v : Vec ℕ} {bytes : List ℕ} (l m : SourceSeen) (h k : TargetSeen) (x : Result RigEnd ToolFault)
    → IsInput l m (Ok f) → f ≡ Some v → bytes ≡ v.items → IsTextRun bytes h k x
    → IsRigRun (devices l h) (devices m k) x
rig_by {v} l m h k x input some same run =
    let P : Option (Vec ℕ) → Type 0 = λ o. IsInput l m (Ok o) in
    let Q : List ℕ → Type 0 = λ b. IsTextRun b h k x in
    let q = subst P some input in
    rig_so v.items l m h k x q.0 q.2 (subst Q same run)
