-- Laws of an end over the definitions alone.
use Rattle.std.specs.Prelude.{◌≡◌, ◌⊎◌, ℕ, List, [], ◌∷◌, length, Some, Result, Err}
use Rattle.sha1.specs.Sha1.{sha1}
use Rattle.bt_feed.specs.Feeds.{taken}
use Rattle.bt_feed.specs.Progress.{IsFeed}
use Rattle.bt_metadata.specs.Assemblies.{AssemblyState}
use Rattle.bt_end.specs.Ends.{EndState, Part, Fetching, Fetched, react, renewed, belief}
use Rattle.bt_end.specs.Halves.{HalfState, received, without_sent, IsTurned, IsSaid}
use Rattle.bt_end.specs.Sturdy.{IsEnd}
use Rattle.bt_end.specs.declared.end.Turn.{Turn}
use Rattle.bt_end.specs.declared.end.TurnError.{TurnError}
use Rattle.bt_end.specs.declared.end.TurnError.TheVariants as turn_error
use Rattle.bt_end.specs.declared.end.SayError.{SayError}
use Rattle.bt_end.specs.declared.end.SayError.TheVariants as say_error
use Rattle.bt_wire.specs.declared.item.Item.{Item}
use Rattle.bt_wire.specs.declared.item.Refusal.{Refusal}
use Rattle.bt_wire.specs.Messages.{Message}
use Rattle.bt_wire.specs.declared.reserved.Reserved.{Reserved}
use Rattle.bt_wire.specs.Handshakes.{negotiated}
use Rattle.bt_feed.specs.Senders.{peer_context}

-- ---- what is fetched

-- The part had this metadata, or an assembly of exactly this size; and the info hash is the SHA-1 of the metadata.
abbrev pub IsFetchedFrom : Part → List ℕ → List ℕ → Type 0
IsFetchedFrom p hash metadata = ((p ≡ Fetched metadata) ⊎ ((a : AssemblyState) × (p ≡ Fetching a) × (length metadata ≡ a.size))) × (sha1 metadata ≡ hash)

-- An end that has metadata after an item had it before, or was fetching metadata of exactly this size, which the peer announced;
-- and the info hash is the SHA-1 of the metadata.
abbrev pub FetchedIsFinished : Type 0
FetchedIsFinished = (a : HalfState) (item : Item) (metadata : List ℕ) → IsEnd a → (react a.end item).end.part ≡ Fetched metadata →
    IsFetchedFrom a.end.part a.end.handshake.info_hash metadata

-- an end that is done stays so, whatever comes, and on a new connection too
abbrev pub DoneStays : Type 0
DoneStays = (e : EndState) (metadata : List ℕ) → e.part ≡ Fetched metadata →
    ((item : Item) → (react e item).end.part ≡ Fetched metadata) × ((renewed e).part ≡ Fetched metadata)

-- ---- refusals

-- a call of an end on its connection
pub data Call : Type 0 where
  Receive : (bytes : List ℕ) → Call
  Sent : (n : ℕ) → Call
  Say : (message : Message) → Result Unit SayError → Call
  Turned : Result Turn TurnError → Call

-- what a call, with the answer that it gave, leaves
abbrev pub IsCalled : HalfState → Call → HalfState → Type 0
IsCalled a (Receive bytes) b = b ≡ received a bytes
IsCalled a (Sent n) b = b ≡ without_sent n a
IsCalled a (Say message answer) b = IsSaid a message answer b
IsCalled a (Turned answer) b = IsTurned a answer b

-- what calls leave, one after the other
abbrev pub AreCalled : HalfState → List Call → HalfState → Type 0
AreCalled a [] b = b ≡ a
AreCalled a (x ∷ xs) b = (m : HalfState) × IsCalled a x m × AreCalled m xs b

-- Each turn answers this refusal; no byte is received; and nothing is said. Nothing changes.
pub record Refuses (a : HalfState) (r : Refusal) : Type 0 where
  pub turns : (answer : Result Turn TurnError) (b : HalfState) → IsTurned a answer b → (answer ≡ Err (turn_error.Refused r)) × (b ≡ a)
  pub receives : (bytes : List ℕ) → (taken a.feed bytes ≡ 0) × (received a bytes ≡ a)
  pub says : (message : Message) (answer : Result Unit SayError) (b : HalfState) → IsSaid a message answer b → (answer ≡ Err say_error.NotOpen) × (b ≡ a)

-- After a turn that answered a refusal, and whatever calls on this connection, the end refuses all with this refusal.
abbrev pub RefusalStays : Type 0
RefusalStays = (a b c : HalfState) (r : Refusal) (calls : List Call) → IsFeed a.feed → IsTurned a (Err (turn_error.Refused r)) b → AreCalled b calls c
    → Refuses c r

-- ---- the peer

-- once the peer's handshake is handled, the end takes the peer to receive in the context that any sender takes it to receive in
abbrev pub BeliefIsPeerContext : Type 0
BeliefIsPeerContext = (e : EndState) (theirs : Reserved) → e.context ≡ Some (negotiated e.own theirs) → belief e ≡ peer_context e.own theirs e.table
