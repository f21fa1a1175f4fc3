-- Two ends over a wire, as steps of the byte link of two ends; and what comes of a fetch.
use Rattle.std.specs.Prelude.{◌≡◌, ℕ, ◌+◌, ◌≤◌, List, [], ◌∷◌, length, drop, Some, Result, Ok, Err, ⊤}
use Rattle.bt_feed.specs.Feeds.{taken}
use Rattle.bt_end.specs.Ends.{EndState, metadata_of}
use Rattle.bt_end.specs.Halves.{HalfState, connected, received}
use Rattle.bt_session.specs.ByteLinks as B
use Rattle.bt_session.specs.FetchLaws.{IsFetchPair, AreMoves, most_bytes}
use Rattle.bt_session.specs.declared.link.Outcome.{Outcome}
use Rattle.bt_session.specs.declared.link.Outcome.TheVariants as outcome
use Rattle.bt_session.specs.declared.link.Step.{Step}
use Rattle.bt_loop.specs.Wires.{WireSeen}
use Rattle.bt_loop.specs.Rounds.{Ends, AreRounds, IsRun, ends_of}
use Rattle.bt_loop.specs.declared.both.Handled.{Handled}
use Rattle.bt_loop.specs.declared.both.Halt.{Halt}
use Rattle.bt_loop.specs.declared.both.Halt.TheVariants as halt

-- The wire tells its bytes, and nothing is on its way, in either direction. (A wire in memory tells them, and a connection of the
-- system doesn't.)
abbrev pub IsClear : WireSeen → Type 0
IsClear s = (s.to_left ≡ Some []) × (s.to_right ≡ Some [])

-- two ends at the start of a connection, over a wire of which `s` is seen
abbrev pub begun : EndState → EndState → WireSeen → Ends
begun a b s = ends_of s (connected a) (connected b) 0 0

-- ---- rounds as steps

-- how many bytes were delivered
abbrev pub delivered_by : Outcome → ℕ
delivered_by (outcome.Delivered n) = n
delivered_by other = 0

abbrev pub delivered : List Outcome → ℕ
delivered [] = 0
delivered (o ∷ os) = delivered_by o + delivered os

-- the node x is this end, with no delivered byte left untaken, and it handled as many items as the count says
pub record IsEndOf (end : HalfState) (count : ℕ) (x : B.Node) : Type 0 where
  pub half : x.half ≡ end
  pub untaken : x.untaken ≡ []
  pub items : length x.handled ≡ count

-- Steps of the byte link of new ends, with their outcomes, lead to these ends. Nothing is said or reset, and nothing is on the wire. Each
-- of n rounds delivered a byte at least.
pub record AreStepsTo (a b : EndState) (n : ℕ) (new : Ends) : Type 0 where
  pub clear : IsClear new.seen
  pub steps : List Step
  pub outcomes : List Outcome
  pub link : B.Link
  pub are : B.AreSteps (B.link_of a b) steps outcomes link
  pub moves : AreMoves steps
  pub left : IsEndOf new.left new.left_items link.left
  pub right : IsEndOf new.right new.right_items link.right
  pub least : n ≤ delivered outcomes

-- rounds of two ends over a wire, on which nothing was at first, are steps of their byte link
abbrev pub RoundsAreSteps : Type 0
RoundsAreSteps = (a b : EndState) (s : WireSeen) (n : ℕ) (new : Ends) → IsClear s → AreRounds n (begun a b s) new → AreStepsTo a b n new

-- ---- a fetch

-- no end stops the run, and the metadata is there when it ends; and if it stopped for the rounds, they were few
abbrev pub FetchesIn : List ℕ → ℕ → Ends → Result Handled Halt → Type 0
FetchesIn metadata rounds new (Ok h) = metadata_of new.right.end.part ≡ Some metadata
FetchesIn metadata rounds new (Err halt.Stopped) = ⊥
FetchesIn metadata rounds new (Err halt.Rounds) = rounds ≤ most_bytes (length metadata)
FetchesIn metadata rounds new (Err e) = ⊤

-- a run of an end that serves metadata and an end that fetches it
abbrev pub RunFetches : Type 0
RunFetches = (metadata : List ℕ) (a b : EndState) (s : WireSeen) (rounds : ℕ) (new : Ends) (result : Result Handled Halt)
    → IsFetchPair metadata a b → IsClear s → IsRun rounds (begun a b s) new result → FetchesIn metadata rounds new result

-- ---- for proofs

-- the node x is the end `half`, to which `bytes` were delivered: the feed took of them what it may, and the rest is untaken
abbrev pub IsGiven : HalfState → List ℕ → B.Node → Type 0
IsGiven half bytes x = (x.half ≡ received half bytes) × (x.untaken ≡ drop (taken half.feed bytes) bytes)
