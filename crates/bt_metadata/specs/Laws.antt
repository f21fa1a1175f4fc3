-- Laws of metadata that is served in blocks and put together again.
use Rattle.std.specs.Prelude.{◌≡◌, ℕ, List, length, slice_get, Some, None, true}
use Rattle.std.specs.Borrow.{Bor}
use Rattle.bt_metadata.specs.Blocks.{block}
use Rattle.bt_metadata.specs.Assemblies.{AssemblyState, Held, is_asked_in, is_whole, joined, data_error, with_data}
use Rattle.bt_metadata.specs.Replies.{IsReply}
use Rattle.bt_metadata.specs.Sound.{IsAssembly}
use Rattle.bt_metadata.specs.declared.server.Reply.TheVariants.{Data}

-- each held block is the one of this metadata
abbrev pub HoldsBlocksOf : List ℕ → AssemblyState → Type 0
HoldsBlocksOf metadata a = (k : ℕ) (b : List ℕ) → slice_get a.slots k ≡ Some (Held b) → b ≡ block metadata k

-- the blocks of metadata, one after the other, are the metadata
abbrev pub WholeIsServed : Type 0
WholeIsServed =
    (metadata : List ℕ) (a : AssemblyState) → IsAssembly a → a.size ≡ length metadata → HoldsBlocksOf metadata a → is_whole a ≡ true → joined a.slots ≡ metadata

-- an assembly that asked for a block takes the one that a server answers with
abbrev pub ServedIsTaken : Type 0
ServedIsTaken =
    (metadata : List ℕ) (a : AssemblyState) (piece total : ℕ) (b : Bor (List ℕ)) → IsAssembly a → a.size ≡ length metadata
    → IsReply metadata piece (Data total b) →
    is_asked_in (slice_get a.slots piece) ≡ true → data_error a piece total b.now ≡ None

-- and holds the metadata's blocks alone from then on
abbrev pub ServedIsHeld : Type 0
ServedIsHeld =
    (metadata : List ℕ) (a : AssemblyState) (piece total : ℕ) (b : Bor (List ℕ)) → HoldsBlocksOf metadata a → IsReply metadata piece (Data total b) →
    HoldsBlocksOf metadata (with_data a piece total b.now)
