-- What the program says at the end of a link and of a loop, and its exit status.
use Rattle.std.specs.Prelude.{ℕ, Bool, List, [], Result, Ok, Err, codes}
use Rattle.bt_text.specs.declared.ended.ToolFault.{ToolFault}
use Rattle.bt_text.specs.Lines.{fault_line}
use Rattle.bt_session.specs.declared.report.LinkError.{LinkError}
use Rattle.bt_link.specs.declared.run.RigEnd.{RigEnd}
use Rattle.bt_link.specs.declared.run.RigEnd.TheVariants.{Unrun}
use Rattle.bt_link.specs.Runs.{complaint as rig_complaint, status_of as rig_status}
use Rattle.bt_loop.specs.declared.looped.LoopEnd.{LoopEnd}
use Rattle.bt_loop.specs.declared.looped.LoopEnd.TheVariants.{Fetched, Unfetched, BadSize}
use Rattle.bt_loop.specs.Loops.{status_of as looped_status}
use Rattle.bt_run.specs.Endings.{fault_status, fault_words}

-- ---- standard error

-- A fault of `link` has its line, and so has what it doesn't run.
abbrev pub link_complaint : Result RigEnd ToolFault → List ℕ
link_complaint (Ok end) = rig_complaint end
link_complaint (Err f) = fault_line f

-- A fault of `loop` has its line, and so has metadata of a wrong size.
abbrev pub loop_complaint : Result LoopEnd ToolFault → List ℕ
loop_complaint (Ok Fetched) = []
loop_complaint (Ok Unfetched) = []
loop_complaint (Ok BadSize) = codes "refused size\n"
loop_complaint (Err f) = fault_line f

-- why a link isn't run
abbrev pub unrun_line : LinkError → List ℕ
unrun_line e = rig_complaint (Unrun e)

-- ---- a link's end

abbrev pub link_words : Bool → List ℕ → Result RigEnd ToolFault → List ℕ
link_words gone prefix (Ok end) = link_complaint (Ok end)
link_words gone prefix (Err f) = fault_words gone prefix f

abbrev pub link_status : Bool → Result RigEnd ToolFault → ℕ
link_status gone (Ok end) = rig_status (Ok end)
link_status gone (Err f) = fault_status gone f

-- ---- the end of `loop`

abbrev pub loop_words : Bool → Result LoopEnd ToolFault → List ℕ
loop_words gone (Ok end) = loop_complaint (Ok end)
loop_words gone (Err f) = fault_words gone [] f

abbrev pub loop_status : Bool → Result LoopEnd ToolFault → ℕ
loop_status gone (Ok end) = looped_status (Ok end)
loop_status gone (Err f) = fault_status gone f
