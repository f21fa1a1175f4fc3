-- Laws of a fetch from an end that serves, over the message link: it sends few bytes, no end is busy, and it ends with the metadata.
use Rattle.std.specs.Prelude.{◌≡◌, ℕ, ◌+◌, ◌*◌, ◌≤◌, true, List, [], ◌∷◌, length, slice_get, Some, ⊤}
use Rattle.std.specs.Option.{IsSome}
use Rattle.sha1.specs.Sha1.{sha1}
use Rattle.bt_ext.specs.Ids.{metadata_id}
use Rattle.bt_ext.specs.Metadata.{block_count}
use Rattle.bt_wire.specs.Handshakes.{negotiated}
use Rattle.bt_metadata.specs.Blocks.{window, max_metadata}
use Rattle.bt_end.specs.Ends.{EndState, Serving, Awaiting, metadata_of}
use Rattle.bt_session.specs.LinkLaws.{IsNew, AreMatched}
use Rattle.bt_session.specs.MessageLinks.{Link, link_of, after_all, AreOutcomes, total}
use Rattle.bt_session.specs.declared.link.Outcome.{Outcome}
use Rattle.bt_session.specs.declared.link.Outcome.TheVariants as outcome
use Rattle.bt_session.specs.declared.link.Step.{Step}
use Rattle.bt_session.specs.declared.link.Step.TheVariants as step

-- Two new ends of matching configs: the left one serves the metadata, the right one fetches it. Both know the Extension Protocol,
-- and each has an id for metadata messages.
pub record IsFetchPair (metadata : List ℕ) (a b : EndState) : Type 0 where
  pub left : IsNew a
  pub right : IsNew b
  pub matched : AreMatched a b
  pub serves : a.part ≡ Serving metadata
  pub awaits : b.part ≡ Awaiting max_metadata
  pub hash : sha1 metadata ≡ b.handshake.info_hash
  pub left_extended : (negotiated a.own b.own.reserved).ext ≡ true
  pub right_extended : (negotiated b.own a.own.reserved).ext ≡ true
  pub left_id : IsSome (metadata_id a.own.reg)
  pub right_id : IsSome (metadata_id b.own.reg)
  pub least : 1 ≤ b.window
  pub most : b.window ≤ window

-- nothing is said, and the connection stays
abbrev pub IsMove : Step → Type 0
IsMove (step.Turn s) = ⊤
IsMove (step.Deliver s n) = ⊤
IsMove other = ⊥

abbrev pub AreMoves : List Step → Type 0
AreMoves [] = ⊤
AreMoves (s ∷ ss) = IsMove s × AreMoves ss

-- how many bytes both ends send at most: their handshakes, and two messages each besides a request and a block for each block
abbrev pub most_bytes : ℕ → ℕ
most_bytes size = 136 + 16610 * (4 + 2 * block_count size)

-- The bytes that both ends send are few. (It holds whatever the outcomes are.)
abbrev pub FetchIsShort : Type 0
FetchIsShort = (metadata : List ℕ) (a b : EndState) (steps : List Step) (outcomes : List Outcome) → IsFetchPair metadata a b → AreMoves steps
    → total (after_all (link_of a b) steps outcomes).left.sent + total (after_all (link_of a b) steps outcomes).right.sent ≤ most_bytes (length metadata)

-- the other end handled each item that an end sent
abbrev pub IsQuiet : Link → Type 0
IsQuiet l = (l.left.handled ≡ length l.left.sent) × (l.right.handled ≡ length l.right.sent)

-- once each end has handled all that the other one sent, the metadata is there
abbrev pub FetchIsWhole : Type 0
FetchIsWhole = (metadata : List ℕ) (a b : EndState) (steps : List Step) (outcomes : List Outcome) → IsFetchPair metadata a b → AreMoves steps
    → IsQuiet (after_all (link_of a b) steps outcomes) → metadata_of (after_all (link_of a b) steps outcomes).right.end.part ≡ Some metadata

-- no turn finds that too much waits to be sent
abbrev pub FetchIsFree : Type 0
FetchIsFree = (metadata : List ℕ) (a b : EndState) (steps : List Step) (outcomes : List Outcome) (n : ℕ) → IsFetchPair metadata a b → AreMoves steps
    → AreOutcomes (link_of a b) steps outcomes → slice_get outcomes n ≡ Some outcome.Busy → ⊥
