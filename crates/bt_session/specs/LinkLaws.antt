-- Laws of the links of two ends: with honest ends the byte link does what the message link does.
use Rattle.std.specs.Prelude.{◌≡◌, ℕ, ◌<◌, ◌≤◌, List, [], ◌∷◌, length, take, slice_get, Option, Some, None, ⊤}
use Rattle.std.specs.Option.{ForSome}
use Rattle.bt_ext.specs.Ids.{HaveBytes}
use Rattle.bt_wire.specs.declared.item.Refusal.{Refusal}
use Rattle.bt_wire.specs.Handshakes.{IsHandshake}
use Rattle.bt_wire.specs.Messages.{IsInRange}
use Rattle.bt_metadata.specs.Assemblies.{AssemblyState}
use Rattle.bt_metadata.specs.Blocks.{max_metadata}
use Rattle.bt_session.specs.ByteLinks as B
use Rattle.bt_end.specs.Ends.{EndState, Part, Watching, Serving, Awaiting, Fetching, unopened, metadata_of}
use Rattle.bt_metadata.specs.Laws.{HoldsBlocksOf}
use Rattle.bt_session.specs.MessageLinks as M
use Rattle.bt_session.specs.MessageLinks.{Connection}
use Rattle.bt_session.specs.declared.link.Outcome.{Outcome}
use Rattle.bt_session.specs.declared.link.Outcome.TheVariants as outcome
use Rattle.bt_session.specs.declared.link.Step.{Step}
use Rattle.bt_session.specs.declared.link.Step.TheVariants as step

-- ---- the ends

-- the metadata that an end serves
abbrev pub source_of : Part → Option (List ℕ)
source_of (Serving metadata) = Some metadata
source_of p = None

pub record IsMetadata (metadata : List ℕ) : Type 0 where
  pub least : 0 < length metadata
  pub most : length metadata ≤ max_metadata

-- what holds of each end that was made of a config, from its first connection on
pub record IsConfigured (a : EndState) : Type 0 where
  pub handshake : IsHandshake a.handshake
  pub hash : a.own.info_hash ≡ Some a.handshake.info_hash
  pub reserved : a.handshake.reserved ≡ a.own.reserved
  pub least : 32768 ≤ a.own.limit
  pub most : a.own.limit ≤ 1048576
  pub ids : HaveBytes a.own.reg
  pub serves : ForSome (source_of a.part) (λ metadata. IsMetadata metadata)

abbrev pub IsFirstPart : Part → Type 0
IsFirstPart Watching = ⊤
IsFirstPart (Serving metadata) = ⊤
IsFirstPart (Awaiting most) = ⊤
IsFirstPart other = ⊥

-- an end before its first connection
pub record IsNew (a : EndState) : Type 0 where
  pub is : IsConfigured a
  pub unopened : a ≡ unopened a.own a.handshake a.announce a.window a.part
  pub part : IsFirstPart a.part

abbrev pub SamePieces : Option ℕ → Option ℕ → Type 0
SamePieces (Some m) (Some n) = m ≡ n
SamePieces o p = ⊤

-- two configs agree: the same info hash, limit and rules, and where both know the piece count the same count
pub record AreMatched (a b : EndState) : Type 0 where
  pub hash : a.handshake.info_hash ≡ b.handshake.info_hash
  pub limit : a.own.limit ≡ b.own.limit
  pub rules : a.own.rules ≡ b.own.rules
  pub pieces : SamePieces a.own.pieces b.own.pieces

-- The numbers of a message that is to be said are in the ranges of its fields (32 bits; a port 16; ids 8). In code the types
-- of these numbers say so.
abbrev pub IsWritten : Step → Type 0
IsWritten (step.Say s m) = IsInRange M.bare m
IsWritten other = ⊤

abbrev pub AreWritten : List Step → Type 0
AreWritten [] = ⊤
AreWritten (s ∷ ss) = IsWritten s × AreWritten ss

-- Two new ends of matching configs, steps, and outcomes with which each direction of each connection stays below 2^62 bytes.
-- It isn't asked here that served metadata has the info hash as its SHA-1: with other metadata the laws hold too, and the fetch
-- starts over each time that all its blocks are there. `run_link` refuses such configs all the same.
pub record IsHonestRun (a b : EndState) (steps : List Step) (outcomes : List Outcome) : Type 0 where
  pub left : IsNew a
  pub right : IsNew b
  pub matched : AreMatched a b
  pub written : AreWritten steps
  pub small : M.StaysSmall (M.link_of a b) steps outcomes

-- ---- the same link

-- the same ends, and so the same held blocks and metadata; and on each connection the same items, sent and handled
pub record SameLink (l : M.Link) (k : B.Link) : Type 0 where
  pub left : k.left.half.end ≡ l.left.end
  pub right : k.right.half.end ≡ l.right.end
  pub connections : B.connections_of k ≡ M.connections_of l

-- Outcomes of steps in the byte link are outcomes of them in the message link, with the same ends and connections.
abbrev pub ByteLinkIsMessageLink : Type 0
ByteLinkIsMessageLink = (a b : EndState) (steps : List Step) (outcomes : List Outcome) (k : B.Link) → IsHonestRun a b steps outcomes
    → B.AreSteps (B.link_of a b) steps outcomes k → M.AreOutcomes (M.link_of a b) steps outcomes × SameLink (M.after_all (M.link_of a b) steps outcomes) k

-- Outcomes of steps in the message link are outcomes of them in the byte link, with the same ends and connections.
abbrev pub MessageLinkIsByteLink : Type 0
MessageLinkIsByteLink = (a b : EndState) (steps : List Step) (outcomes : List Outcome) → IsHonestRun a b steps outcomes
    → M.AreOutcomes (M.link_of a b) steps outcomes → (k : B.Link) × B.AreSteps (B.link_of a b) steps outcomes k
    × SameLink (M.after_all (M.link_of a b) steps outcomes) k

-- ---- two honest ends never refuse each other

-- no outcome is a refusal
abbrev pub NothingIsRefused : Type 0
NothingIsRefused = (a b : EndState) (steps : List Step) (outcomes : List Outcome) (k : B.Link) → IsHonestRun a b steps outcomes
    → B.AreSteps (B.link_of a b) steps outcomes k → (n : ℕ) (r : Refusal) → slice_get outcomes n ≡ Some (outcome.Refused r) → ⊥

-- the items that an end handled are a prefix of those that the other one sent, in their order, each once
abbrev pub IsInOrder : Connection → Type 0
IsInOrder c = (c.left_handled ≡ take (length c.left_handled) c.right_sent) × (c.right_handled ≡ take (length c.right_handled) c.left_sent)

abbrev pub AreInOrder : List Connection → Type 0
AreInOrder [] = ⊤
AreInOrder (c ∷ cs) = IsInOrder c × AreInOrder cs

abbrev pub HandledInOrder : Type 0
HandledInOrder = (a b : EndState) (steps : List Step) (outcomes : List Outcome) (k : B.Link) → IsHonestRun a b steps outcomes
    → B.AreSteps (B.link_of a b) steps outcomes k → AreInOrder (B.connections_of k)

-- the blocks and the metadata that an end fetched are those of the metadata that the other end serves
pub record FetchesFrom (source : Option (List ℕ)) (p : Part) : Type 0 where
  pub blocks : (s : AssemblyState) → p ≡ Fetching s → (metadata : List ℕ) × (source ≡ Some metadata) × HoldsBlocksOf metadata s
  pub whole : (metadata : List ℕ) → metadata_of p ≡ Some metadata → source ≡ Some metadata

abbrev pub FetchedIsServed : Type 0
FetchedIsServed = (a b : EndState) (steps : List Step) (outcomes : List Outcome) (k : B.Link) → IsHonestRun a b steps outcomes
    → B.AreSteps (B.link_of a b) steps outcomes k → FetchesFrom (source_of b.part) k.left.half.end.part × FetchesFrom (source_of a.part) k.right.half.end.part

-- ---- bytes that are sent

-- as many steps as a run of the link may have
abbrev pub most_steps : ℕ
most_steps = 4294967296

pub record IsShortRun (a b : EndState) (steps : List Step) : Type 0 where
  pub left : IsNew a
  pub right : IsNew b
  pub matched : AreMatched a b
  pub written : AreWritten steps
  pub few : length steps ≤ most_steps

-- with so few steps each direction of each connection stays below 2^62 bytes
abbrev pub FewStepsStaySmall : Type 0
FewStepsStaySmall = (a b : EndState) (steps : List Step) (outcomes : List Outcome) → IsShortRun a b steps
    → ((k : B.Link) → B.AreSteps (B.link_of a b) steps outcomes k → M.StaysSmall (M.link_of a b) steps outcomes)
    × (M.AreOutcomes (M.link_of a b) steps outcomes → M.StaysSmall (M.link_of a b) steps outcomes)

-- ---- one outcome

-- steps have one list of outcomes
abbrev pub OutcomesAreOne : Type 0
OutcomesAreOne = (a b : EndState) (steps : List Step) (outcomes others : List Outcome) → IsHonestRun a b steps outcomes
    → M.AreOutcomes (M.link_of a b) steps outcomes → M.AreOutcomes (M.link_of a b) steps others → outcomes ≡ others

-- ---- queued messages

-- whatever an end queues at the next item may be sent, in the context in which it believes the other one to read

abbrev pub QueuedMayBeSent : Type 0
QueuedMayBeSent = (a b : EndState) (steps : List Step) (outcomes : List Outcome) (k : B.Link) → IsShortRun a b steps
    → B.AreSteps (B.link_of a b) steps outcomes k → B.QueuesWell k.left × B.QueuesWell k.right
