-- How far a stream is read by one rule set, and what may be told of it.
use Rattle.std.specs.Prelude.{◌≡◌, ◌≤◌, ℕ, false, List, [], ◌++◌, length, take, Option, Some, None, Err}
use Rattle.bt_wire.specs.declared.context.Own.{Own}
use Rattle.bt_wire.specs.declared.item.Item.{Item}
use Rattle.bt_wire.specs.declared.item.Refusal.{Refusal}
use Rattle.bt_wire.specs.Streams.{Outcome, IsVerdict}
use Rattle.bt_text.specs.declared.ended.Ended.{Ended}
use Rattle.bt_text.specs.Lines.{ended_as}
use Rattle.bt_feed.specs.declared.stage.Stage.{Stage}
use Rattle.bt_feed.specs.declared.stage.Stage.TheVariants as stage
use Rattle.bt_feed.specs.Answers.{IsAnswer}
use Rattle.bt_feed.specs.Feeds.{FeedState}
use Rattle.bt_feed.specs.Pumps.{IsFed}
use Rattle.bt_feed.specs.Stages.{start_of, limit_of, is_all, is_closed, Spells}

-- a parser, and the refusal after which it gets no more bytes
pub record ReadingState : Type 0 where
  pub feed : FeedState
  pub refused : Option Refusal

abbrev pub reading_state : FeedState → Option Refusal → ReadingState
reading_state feed refused = record { feed = feed; refused = refused }

-- from its handshake on b is the spellings of these items, and then what the feed holds
abbrev pub HasRead : Own → List ℕ → List (ℕ × Item) → FeedState → Type 0
HasRead own b xs f = Spells (stage.Handshake own) xs b f.stage f.held

-- b went into the feed and has these items; the feed holds what follows them, which is no whole item
pub record IsHeld (own : Own) (b : List ℕ) (xs : List (ℕ × Item)) (f : FeedState) : Type 0 where
  pub read : HasRead own b xs f
  pub limit : limit_of f.stage ≤ 1048576
  pub waits : is_closed f.stage f.held ≡ false

-- A prefix of b has these items and this refusal, or none, and then these bytes, which start at this offset. Only a refusal leaves more of b.
pub record IsUnread (own : Own) (b : List ℕ) (xs : List (ℕ × Item)) (refused : Option Refusal) (from : ℕ) (bytes : List ℕ) : Type 0 where
  pub front : List ℕ
  pub later : List ℕ
  pub parts : b ≡ front ++ later
  pub rest : refused ≡ None → later ≡ []
  pub verdict : Outcome
  pub is : IsVerdict own front verdict
  pub items : verdict.items ≡ xs
  pub refusal : verdict.refusal ≡ refused
  pub start : verdict.start ≡ from
  pub tail : verdict.tail ≡ bytes

-- b was taken, and these are its items. Its verdict has the refusal that is kept, or none; without one the feed holds the rest of b.
pub record IsJudged (own : Own) (b : List ℕ) (xs : List (ℕ × Item)) (r : ReadingState) : Type 0 where
  pub limit : own.limit ≤ 1048576
  pub now : Outcome
  pub is : IsVerdict own b now
  pub items : now.items ≡ xs
  pub refusal : now.refusal ≡ r.refused
  pub held : r.refused ≡ None → IsHeld own b xs r.feed
  pub unread : IsUnread own b xs r.refused (start_of r.feed.stage) r.feed.held

-- b begins with these items, whatever they are followed by
abbrev pub BeginsWith : Own → List ℕ → List (ℕ × Item) → Type 0
BeginsWith own b xs = (v : Outcome) → IsVerdict own b v → (more : List (ℕ × Item)) × (v.items ≡ xs ++ more)

-- the verdict of b, if the stream ends there; these are its items
abbrev pub IsTold : Own → List ℕ → List (ℕ × Item) → Ended → Type 0
IsTold own b xs e = (v : Outcome) × IsVerdict own b v × (v.items ≡ xs) × (e ≡ ended_as v (length b))

-- b is refused in this way, and so is all that begins with b; or b isn't refused
abbrev pub IsStanding : Own → List ℕ → Option Refusal → Type 0
IsStanding own b None = (v : Outcome) → IsVerdict own b v → v.refusal ≡ None
IsStanding own b (Some r) = (later : List ℕ) (v : Outcome) → IsVerdict own (b ++ later) v → v.refusal ≡ Some r

-- ---- for private contracts, and for the invariant

-- a piece is read, and no whole item is held; or some first bytes of it are, and what follows is refused
abbrev pub IsPieceTaken : FeedState → List ℕ → List (ℕ × Item) → FeedState → Option Refusal → Type 0
IsPieceTaken f piece xs g None = IsFed f piece xs g × (is_closed g.stage g.held ≡ false)
IsPieceTaken f piece xs g (Some r) = (n : ℕ) × IsFed f (take n piece) xs g × IsAnswer g (Err r)

-- b was taken up to the byte with which it is refused, if it is
pub record IsJudgedTo (own : Own) (b : List ℕ) (xs : List (ℕ × Item)) (r : ReadingState) : Type 0 where
  pub judged : IsJudged own b xs r
  pub read : HasRead own b xs r.feed
  pub limit : limit_of r.feed.stage ≤ 1048576

-- of these bytes the first n were taken: all, if none is refused
pub record IsFront (bytes : List ℕ) (n : ℕ) (refused : Option Refusal) : Type 0 where
  pub within : n ≤ length bytes
  pub all : refused ≡ None → n ≡ length bytes

-- b begins with the spellings of these items; u is awaited then
pub record Begins (own : Own) (b : List ℕ) (xs : List (ℕ × Item)) (u : Stage) : Type 0 where
  pub front : List ℕ
  pub rest : List ℕ
  pub parts : b ≡ front ++ rest
  pub spelled : Spells (stage.Handshake own) xs front u []
  pub limit : limit_of u ≤ 1048576

-- no whole item is held that wasn't taken
abbrev pub HoldsNoItem : ReadingState → Type 0
HoldsNoItem r = r.refused ≡ None → is_all r.feed.stage r.feed.held ≡ false
