-- What `fetch` says at its end, and its exit status.
use Rattle.std.specs.Prelude.{ℕ, Bool, List, [], Result, Ok, Err}
use Rattle.bt_text.specs.declared.ended.ToolFault.TheVariants as fault
use Rattle.bt_fetch.specs.declared.file.FetchError.{FetchError}
use Rattle.bt_fetch.specs.declared.file.FetchError.TheVariants.{NotFetched, Write, Memory}
use Rattle.bt_run.specs.Endings.{fault_status, fault_words}

-- a fault has its line, but for an output that nobody reads
abbrev pub fetch_words : Bool → Result ℕ FetchError → List ℕ
fetch_words gone (Ok n) = []
fetch_words gone (Err NotFetched) = []
fetch_words gone (Err Write) = fault_words gone [] fault.Write
fetch_words gone (Err Memory) = fault_words gone [] fault.Memory

-- 0 where all was written, 1 where nothing was fetched, and a fault's status
abbrev pub fetch_status : Bool → Result ℕ FetchError → ℕ
fetch_status gone (Ok n) = 0
fetch_status gone (Err NotFetched) = 1
fetch_status gone (Err Write) = fault_status gone fault.Write
fetch_status gone (Err Memory) = fault_status gone fault.Memory
