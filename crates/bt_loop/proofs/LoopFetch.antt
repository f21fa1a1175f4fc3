-- A loop fetches, put together from its parts.
use Rattle.std.proofs.Common.{◌≡◌, ℕ, ◌+◌, ◌≤◌, List, [], length, Option, Some, None, Result, Ok, Err, refl, sym, ap, subst, ◌∙◌, arith}
use Rattle.std.specs.Io.KnownBytes.{Consumes}
use Rattle.bt_metadata.specs.Blocks.{max_metadata}
use Rattle.bt_ext.specs.declared.ids.Rules.{Rules}
use Rattle.bt_end.specs.Configs.{is_bad_size}
use Rattle.bt_end.specs.Ends.{EndState, metadata_of}
use Rattle.bt_end.specs.Halves.{HalfState, connected}
use Rattle.bt_session.specs.FetchLaws.{IsFetchPair, most_bytes}
use Rattle.bt_text.specs.declared.ended.ToolFault.{ToolFault}
use Rattle.bt_text.specs.declared.ended.ToolFault.TheVariants as fault
use Rattle.bt_loop.specs.declared.looped.LoopEnd.{LoopEnd}
use Rattle.bt_loop.specs.declared.looped.LoopEnd.TheVariants.{Fetched, Unfetched, BadSize}
use Rattle.bt_loop.specs.declared.both.Handled.{Handled}
use Rattle.bt_loop.specs.declared.both.Halt.{Halt}
use Rattle.bt_loop.specs.declared.both.Halt.TheVariants as halt
use Rattle.bt_loop.specs.Loops.{Fetches, IsFetching, IsInput, IsLoop, IsLooped, IsPrinted, IsTimely, most_rounds}
use Rattle.bt_loop.specs.Rounds.{HasRun, IsRun, ends_of}
use Rattle.bt_loop.specs.Runs.{IsClear, begun, FetchesIn}
use Rattle.bt_loop.specs.Wires.{WireSeen}
use Rattle.bt_loop.proofs.Fetching.{run_fetches}
use Rattle.bt_loop.proofs.LoopPair.{not_long}

-- two ends at the start of a connection: the one, now `l`, serves the metadata, and the other, now `r`, fetches it
pub record IsFetchStart (metadata : List ℕ) (s : WireSeen) (l r : HalfState) : Type 0 where
  pub serving : EndState
  pub fetching : EndState
  pub pair : IsFetchPair metadata serving fetching
  pub clear : IsClear s
  pub left : l ≡ connected serving
  pub right : r ≡ connected fetching

pub run_of : {metadata : List ℕ} {s : WireSeen} {l r : HalfState} (t : WireSeen) (l' r' : HalfState) (result : Result Handled Halt) (start : IsFetchStart metadata s l r)
    → (run : HasRun most_rounds s t l l' r r' result) → FetchesIn metadata most_rounds (ends_of t l' r' run.0 run.1) result
run_of {metadata} {s} {l} {r} t l' r' result start run =
    let same : ends_of s l r 0 0 ≡ begun start.serving start.fetching s = λ i. ends_of s (start.left i) (start.right i) 0 0 in
    run_fetches metadata start.serving start.fetching s most_rounds (ends_of t l' r' run.0 run.1) result start.pair start.clear
    (subst (λ x. IsRun most_rounds x (ends_of t l' r' run.0 run.1) result) same run.2)

-- what is written of ends that have nothing more to send, if the metadata is there
pub printed_fetching : (h : Handled) (right : HalfState) (held held' : Option (List ℕ)) (x : Result LoopEnd ToolFault) (metadata : List ℕ)
    → metadata_of right.end.part ≡ Some metadata → IsPrinted h right held held' x → IsFetching metadata x
printed_fetching h right held held' (Ok Fetched) metadata there w = tt
printed_fetching h right held held' (Ok Unfetched) metadata there w = let both : None ≡ Some metadata = sym w.0 ∙ there in cc
printed_fetching h right held held' (Ok BadSize) metadata there w = tt
printed_fetching h right held held' (Err fault.Write) metadata there w = tt
printed_fetching h right held held' (Err fault.Read) metadata there w = tt
printed_fetching h right held held' (Err fault.Memory) metadata there w = tt
printed_fetching h right held held' (Err fault.Turns) metadata there w = absurd w
printed_fetching h right held held' (Err fault.Net) metadata there w = tt

-- ---- a run from the input on

timely : (AtEnd : Type 0) (s t : WireSeen) (rules : Rules) (limit : ℕ) (text : List ℕ) (held held' : Option (List ℕ)) (x : Result LoopEnd ToolFault)
    → (length text ≤ max_metadata → AtEnd) → IsLooped s t rules limit text held held' x → IsTimely AtEnd (length text) x
timely AtEnd s t rules limit text held held' (Ok Fetched) at w = at (not_long text w.0)
timely AtEnd s t rules limit text held held' (Ok Unfetched) at w = at (not_long text w.0)
timely AtEnd s t rules limit text held held' (Ok BadSize) at w = at
timely AtEnd s t rules limit text held held' (Err fault.Write) at w = at (not_long text w.0)
timely AtEnd s t rules limit text held held' (Err fault.Turns) at w = at (not_long text w.0)
timely AtEnd s t rules limit text held held' (Err fault.Net) at w = at (not_long text w.0)
timely AtEnd s t rules limit text held held' (Err fault.Read) at w = tt
timely AtEnd s t rules limit text held held' (Err fault.Memory) at w = tt

pub loop_so : (left left' : Option (List ℕ)) (AtEnd : Type 0) (s t : WireSeen) (rules : Rules) (limit : ℕ) (text : List ℕ) (held held' : Option (List ℕ))
    (x : Result LoopEnd ToolFault) → Consumes left left' text → length text ≤ max_metadata + 1 → (length text ≤ max_metadata → AtEnd) → IsLooped s t rules limit text held held' x → (IsClear s → IsFetching text x)
    → IsLoop left left' AtEnd s t rules limit held held' x
loop_so left left' AtEnd s t rules limit text held held' x reads most at w fetches = record {
  text = text;
  reads = reads;
  most = most;
  timely = timely AtEnd s t rules limit text held held' x at w;
  looped = w;
  fetches = fetches;
}

-- nothing was served
pub unread : (left left' : Option (List ℕ)) (AtEnd F : Type 0) (s : WireSeen) (rules : Rules) (limit : ℕ) (held : Option (List ℕ)) (e : ToolFault)
    → IsInput left left' AtEnd F (Err e) → IsLoop left left' AtEnd s s rules limit held held (Err e)
unread left left' AtEnd F s rules limit held fault.Read h =
    record { text = h.0; reads = h.1; most = h.2; timely = tt; looped = refl; fetches = λ clear. tt }
unread left left' AtEnd F s rules limit held fault.Memory h =
    record { text = h.0; reads = h.1; most = h.2; timely = tt; looped = refl; fetches = λ clear. tt }
unread left left' AtEnd F s rules limit held fault.Write h = absurd h
unread left left' AtEnd F s rules limit held fault.Turns h = absurd h
unread left left' AtEnd F s rules limit held fault.Net h = absurd h
