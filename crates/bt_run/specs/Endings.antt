-- What the program says at its end, and its exit status, where the output's reader may be gone.
use Rattle.std.specs.Prelude.{ℕ, Bool, false, List, [], ◌++◌, Option, Some, None, Result, Ok, Err, if◌then◌else◌}
use Rattle.bt_text.specs.declared.ended.ToolFault.{ToolFault}
use Rattle.bt_text.specs.declared.ended.ToolFault.TheVariants as fault
use Rattle.bt_text.specs.Lines.{fault_line}
use Rattle.bt_run.specs.declared.commands.Job.{Job}
use Rattle.bt_run.specs.declared.run.JobEnd.{JobEnd}
use Rattle.bt_run.specs.Runs.{complaint, exit_status_of, fault_in}

-- nobody reads what the program writes, and a write failed
abbrev pub is_cut : Bool → ToolFault → Bool
is_cut gone fault.Write = gone
is_cut gone f = false

-- What standard error gets of a fault: nothing of an output that nobody reads, and the input's name before a failed read
abbrev pub fault_words : Bool → List ℕ → ToolFault → List ℕ
fault_words gone prefix fault.Write = if gone then [] else fault_line fault.Write
fault_words gone prefix fault.Read = prefix ++ fault_line fault.Read
fault_words gone prefix f = fault_line f

-- 141 is what a shell has for a program that SIGPIPE ended.
abbrev pub fault_status : Bool → ToolFault → ℕ
fault_status gone f = if is_cut gone f then 141 else 3

abbrev pub words_by : Option ToolFault → Bool → List ℕ → List ℕ → List ℕ
words_by (Some f) gone prefix text = fault_words gone prefix f
words_by None gone prefix text = text

abbrev pub status_by : Option ToolFault → Bool → ℕ → ℕ
status_by (Some f) gone status = fault_status gone f
status_by None gone status = status

-- ---- a job's end

abbrev pub job_words : Bool → List ℕ → Job → JobEnd → List ℕ
job_words gone prefix job end = words_by (fault_in end) gone prefix (complaint job end)

abbrev pub job_status : Bool → JobEnd → ℕ
job_status gone end = status_by (fault_in end) gone (exit_status_of end)

-- ---- a text's end

abbrev pub text_words : Bool → Result (Unit {0}) ToolFault → List ℕ
text_words gone (Ok u) = []
text_words gone (Err f) = fault_words gone [] f

abbrev pub text_status : Bool → Result (Unit {0}) ToolFault → ℕ
text_status gone (Ok u) = 0
text_status gone (Err f) = fault_status gone f
