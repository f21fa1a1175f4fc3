-- What a loop writes, put together from its parts.
use Rattle.std.proofs.Common.{◌≡◌, ◌⊎◌, ℕ, ◌+◌, ◌*◌, ◌≤◌, List, false, length, Option, Some, None, Result, Ok, Err, inl, inr, refl, sym, ap, subst, ◌∙◌}
use Rattle.std.specs.Io.KnownBytes.{Appends}
use Rattle.bt_io.specs.Seen.{AppendsPrefix}
use Rattle.sha1.specs.Sha1.{sha1}
use Rattle.bt_ext.specs.declared.ids.Rules.{Rules}
use Rattle.bt_end.specs.Configs.{is_bad_size}
use Rattle.bt_end.specs.Ends.{metadata_of}
use Rattle.bt_end.specs.Halves.{HalfState}
use Rattle.bt_text.specs.declared.ended.ToolFault.{ToolFault}
use Rattle.bt_text.specs.declared.ended.ToolFault.TheVariants as fault
use Rattle.bt_loop.specs.declared.looped.LoopEnd.{LoopEnd}
use Rattle.bt_loop.specs.declared.looped.LoopEnd.TheVariants.{Fetched, Unfetched, BadSize}
use Rattle.bt_loop.specs.declared.both.Handled.{Handled}
use Rattle.bt_loop.specs.declared.both.Halt.{Halt}
use Rattle.bt_loop.specs.declared.both.Halt.TheVariants as halt
use Rattle.bt_loop.specs.Rounds.{HasRun, capped, ends_of}
use Rattle.bt_loop.specs.Wires.{WireSeen}
use Rattle.bt_loop.specs.Loops.{left_end, right_end, IsLooped, IsPrinted, IsLinked, IsFetched, IsUnfetched, IsUnended, IsOutput, IsWireFault, IsWrite, fetched_lines}
use Rattle.bt_loop.specs.Loops.{most_rounds, unfetched_line}
use Rattle.bt_loop.proofs.Passing.{rounds_calls, halted_calm}

-- ---- what is printed

pub printed_unfetched : (h : Handled) (r : HalfState) (held held' : Option (List ℕ)) (x : Result LoopEnd ToolFault) → metadata_of r.end.part ≡ None
    → IsWrite unfetched_line Unfetched held held' x → IsPrinted h r held held' x
printed_unfetched h r held held' (Ok e) none w = subst (λ (y : LoopEnd). IsPrinted h r held held' (Ok y)) (sym w.1) (none, w.0)
printed_unfetched h r held held' (Err f) none w =
    subst (λ (y : ToolFault). IsPrinted h r held held' (Err y)) (sym w.1) (unfetched_line, w.0, inr (none, refl))

pub printed_fetched : (h : Handled) (r : HalfState) (m lines : List ℕ) (held held' : Option (List ℕ)) (x : Result LoopEnd ToolFault)
    → metadata_of r.end.part ≡ Some m → lines ≡ fetched_lines m h.left h.right → IsWrite lines Fetched held held' x → IsPrinted h r held held' x
printed_fetched h r m lines held held' (Ok e) there is w =
    subst (λ (y : LoopEnd). IsPrinted h r held held' (Ok y)) (sym w.1) (m, there, subst (Appends held held') is w.0)
printed_fetched h r m lines held held' (Err f) there is w =
    subst (λ (y : ToolFault). IsPrinted h r held held' (Err y)) (sym w.1) (lines, w.0, inl (m, there, is))

-- ---- a run that is printed

fetched_by : (s t : WireSeen) (l r l' r' : HalfState) (h : Handled) (m : List ℕ) → HasRun most_rounds s t l l' r r' (Ok h) → metadata_of r'.end.part ≡ Some m
    → IsFetched s t l r m h.left h.right
fetched_by s t l r l' r' h m run e = record { left_half = l'; right_half = r'; run = run; there = e }

unfetched_by : (s t : WireSeen) (l r l' r' : HalfState) (h : Handled) → HasRun most_rounds s t l l' r r' (Ok h) → metadata_of r'.end.part ≡ None
    → IsUnfetched s t l r
unfetched_by s t l r l' r' h run e = record { left_half = l'; right_half = r'; result = Ok h; run = run; why = e }

pub stopped_by : (s t : WireSeen) (l r l' r' : HalfState) → HasRun most_rounds s t l l' r r' (Err halt.Stopped) → IsUnfetched s t l r
stopped_by s t l r l' r' run = record { left_half = l'; right_half = r'; result = Err halt.Stopped; run = run; why = tt }

output : (s t : WireSeen) (l r l' r' : HalfState) (h : Handled) (lines : List ℕ) → HasRun most_rounds s t l l' r r' (Ok h)
    → ((m : List ℕ) × (metadata_of r'.end.part ≡ Some m) × (lines ≡ fetched_lines m h.left h.right))
    ⊎ ((metadata_of r'.end.part ≡ None) × (lines ≡ unfetched_line)) → IsOutput s t l r lines
output s t l r l' r' h lines run (inl w) = inl (w.0, h.left, h.right, fetched_by s t l r l' r' h w.0 run w.1, w.2)
output s t l r l' r' h lines run (inr w) = inr (unfetched_by s t l r l' r' h run w.0, w.1)

pub linked_so : (s t : WireSeen) (l r l' r' : HalfState) (h : Handled) (held held' : Option (List ℕ)) (x : Result LoopEnd ToolFault)
    → HasRun most_rounds s t l l' r r' (Ok h) → IsPrinted h r' held held' x → IsLinked s t l r held held' x
linked_so s t l r l' r' h held held' (Ok Fetched) run w = (w.0, h.left, h.right, fetched_by s t l r l' r' h w.0 run w.1, w.2)
linked_so s t l r l' r' h held held' (Ok Unfetched) run w = (unfetched_by s t l r l' r' h run w.0, w.1)
linked_so s t l r l' r' h held held' (Ok BadSize) run w = absurd w
linked_so s t l r l' r' h held held' (Err fault.Write) run w = (w.0, output s t l r l' r' h w.0 run w.2, w.1)
linked_so s t l r l' r' h held held' (Err fault.Read) run w = absurd w
linked_so s t l r l' r' h held held' (Err fault.Memory) run w = w
linked_so s t l r l' r' h held held' (Err fault.Turns) run w = absurd w
linked_so s t l r l' r' h held held' (Err fault.Net) run w = absurd w

-- a run that an end stopped
pub linked_stopped : (s t : WireSeen) (l r l' r' : HalfState) (held held' : Option (List ℕ)) (x : Result LoopEnd ToolFault)
    → HasRun most_rounds s t l l' r r' (Err halt.Stopped) → IsWrite unfetched_line Unfetched held held' x → IsLinked s t l r held held' x
linked_stopped s t l r l' r' held held' (Ok e) run w =
    subst (λ (y : LoopEnd). IsLinked s t l r held held' (Ok y)) (sym w.1) (stopped_by s t l r l' r' run, w.0)
linked_stopped s t l r l' r' held held' (Err f) run w =
    subst (λ (y : ToolFault). IsLinked s t l r held held' (Err y)) (sym w.1)
    (unfetched_line, inr (stopped_by s t l r l' r' run, refl), w.0)

-- ---- faults of the wire

pub fault_printed : (s t : WireSeen) (h : Handled) (r : HalfState) (held held' : Option (List ℕ)) (x : Result LoopEnd ToolFault) → t.failed ≡ s.failed
    → IsPrinted h r held held' x → IsWireFault s t x
fault_printed s t h r held held' (Ok e) calm w = calm
fault_printed s t h r held held' (Err fault.Write) calm w = calm
fault_printed s t h r held held' (Err fault.Read) calm w = calm
fault_printed s t h r held held' (Err fault.Memory) calm w = calm
fault_printed s t h r held held' (Err fault.Turns) calm w = absurd w
fault_printed s t h r held held' (Err fault.Net) calm w = absurd w

pub fault_stopped : (s t : WireSeen) (held held' : Option (List ℕ)) (x : Result LoopEnd ToolFault) → t.failed ≡ s.failed
    → IsWrite unfetched_line Unfetched held held' x → IsWireFault s t x
fault_stopped s t held held' (Ok e) calm w = calm
fault_stopped s t held held' (Err f) calm w = subst (λ (y : ToolFault). IsWireFault s t (Err y)) (sym w.1) calm

pub run_calm : (s t : WireSeen) (l r l' r' : HalfState) (h : Handled) → HasRun most_rounds s t l l' r r' (Ok h) → t.failed ≡ s.failed
run_calm s t l r l' r' h run = (rounds_calls run.2.0 _ _ run.2.2).0

pub stopped_calm : (s t : WireSeen) (l r l' r' : HalfState) → HasRun most_rounds s t l l' r r' (Err halt.Stopped) → t.failed ≡ s.failed
stopped_calm s t l r l' r' run = halted_calm run.2.4 ∙ (rounds_calls run.2.0 _ _ run.2.3).0

-- ---- a run that makes as many rounds as may be

pub unended_by : (s t : WireSeen) (l r l' r' : HalfState) (e : Halt) → e ≡ halt.Rounds → HasRun most_rounds s t l l' r r' (Err e) → IsUnended s t l r
unended_by s t l r l' r' e is run =
    record { left_half = l'; right_half = r'; run = subst (λ (x : Halt). HasRun most_rounds s t l l' r r' (Err x)) is run }

-- each round made two calls
pub unended_calm : (rounds : ℕ) (s t : WireSeen) (l r l' r' : HalfState) (e : Halt) → e ≡ halt.Rounds → HasRun rounds s t l l' r r' (Err e)
    → (t.failed ≡ s.failed) × (capped (s.calls + 2 * rounds) ≤ t.calls)
unended_calm rounds s t l r l' r' e is run =
    let h : HasRun rounds s t l l' r r' (Err halt.Rounds) = subst (λ (x : Halt). HasRun rounds s t l l' r r' (Err x)) is run in
    rounds_calls rounds (ends_of s l r 0 0) (ends_of t l' r' h.0 h.1) h.2.0

-- ---- from the metadata on

pub never_read : (s t : WireSeen) (l r : HalfState) (held held' : Option (List ℕ)) (x : Result LoopEnd ToolFault) → IsLinked s t l r held held' x
    → x ≡ Err fault.Read → ⊥
never_read s t l r held held' x w e = subst (IsLinked s t l r held held') e w

looped : (s t : WireSeen) (rules : Rules) (limit : ℕ) (text : List ℕ) (held held' : Option (List ℕ)) (x : Result LoopEnd ToolFault) → is_bad_size (length text) ≡ false
    → IsLinked s t (left_end rules limit text) (right_end rules limit (sha1 text)) held held' x → IsLooped s t rules limit text held held' x
looped s t rules limit text held held' (Ok Fetched) size w = (size, w)
looped s t rules limit text held held' (Ok Unfetched) size w = (size, w)
looped s t rules limit text held held' (Ok BadSize) size w = absurd w
looped s t rules limit text held held' (Err fault.Write) size w = (size, w)
looped s t rules limit text held held' (Err fault.Read) size w = absurd w
looped s t rules limit text held held' (Err fault.Memory) size w = w
looped s t rules limit text held held' (Err fault.Turns) size w = (size, w)
looped s t rules limit text held held' (Err fault.Net) size w = (size, w)

pub looped_so : {hash : List ℕ} {l r : HalfState} (s t : WireSeen) (rules : Rules) (limit : ℕ) (text : List ℕ) (held held' : Option (List ℕ))
    (x : Result LoopEnd ToolFault) → l ≡ left_end rules limit text → hash ≡ sha1 text → r ≡ right_end rules limit hash
    → is_bad_size (length text) ≡ false → IsLinked s t l r held held' x → IsLooped s t rules limit text held held' x
looped_so {r} s t rules limit text held held' x left same right size w =
    let P : HalfState → Type 0 = λ a. IsLinked s t a r held held' x in
    let Q : HalfState → Type 0 = λ a. IsLinked s t (left_end rules limit text) a held held' x in
    let fetcher : r ≡ right_end rules limit (sha1 text) = right ∙ ap (right_end rules limit) same in
    looped s t rules limit text held held' x size (subst Q fetcher (subst P left w))
