-- What a pump moves: the bytes of a source through a feed, and its items into a sink.
use Rattle.std.specs.Prelude.{◌≡◌, ◌⊎◌, ◌≤◌, ◌<◌, ◌-◌, ◌*◌, ◌^◌, ℕ, Option, Some, ⊤, false, length, List, [], ◌∷◌, ◌++◌, ◌+◌, take, MatchResult, None, Result, Ok, Err}
use Rattle.std.specs.Io.KnownBytes.{Consumes, Keeps}
use Rattle.bt_wire.specs.declared.fault.Reason.TheVariants.{EndInside}
use Rattle.bt_wire.specs.declared.context.Context.{Context}
use Rattle.bt_wire.specs.declared.context.Order.{Order}
use Rattle.bt_wire.specs.declared.item.Item.{Item}
use Rattle.bt_wire.specs.Headers.{IsRead as IsReadAs}
use Rattle.bt_wire.specs.Messages.{Message, order_after}
use Rattle.bt_wire.specs.Streams.{Outcome}
use Rattle.bt_feed.specs.declared.pumping.PumpError.{PumpError}
use Rattle.bt_feed.specs.declared.pumping.PumpError.TheVariants as error
use Rattle.bt_feed.specs.declared.sink.SinkFault.{SinkFault}
use Rattle.bt_feed.specs.declared.view.Finish.TheVariants as finish
use Rattle.bt_feed.specs.Stages.{number_of, is_closed, Spells, Comes}
use Rattle.bt_io.specs.Seen.{SourceSeen}
use Rattle.bt_io.specs.declared.failed.Failed.{Failed}
use Rattle.bt_feed.specs.Feeds.{FeedState, with_bytes}
use Rattle.bt_feed.specs.Laws.{verdict_at_end}
use Rattle.bt_feed.specs.Answers.{IsAnswer}
use Rattle.bt_feed.specs.Transcripts.{with_items}

-- ---- sinks

-- the items are taken one after the other
abbrev pub Took : {S : Type 0} → (S → ℕ × Item → S → Type 0) → S → List (ℕ × Item) → S → Type 0
Took takes old [] new = new ≡ old
Took takes old (x ∷ xs) new = (next : _) × takes old x next × Took takes next xs new

-- of these items all but the last are taken, at which the sink answered this fault
abbrev pub IsMissed : {S : Type 0} → (S → ℕ × Item → S → Type 0) → (S → ℕ × Item → SinkFault → S → Type 0) → SinkFault → S → List (ℕ × Item) → S → Type 0
IsMissed takes misses fault old given new =
    (xs : List (ℕ × Item)) × (x : ℕ × Item) × (last : _) × (given ≡ xs ++ x ∷ []) × Took takes old xs last × misses last x fault new

-- a pump gave these items: all of them are taken, or all but the last, and the answer is the fault that the sink answered there
abbrev pub IsGiven : {S A : Type 0} → (S → ℕ × Item → S → Type 0) → (S → ℕ × Item → SinkFault → S → Type 0) → S → List (ℕ × Item) → S → Result A PumpError
    → Type 0
IsGiven takes misses old given new (Ok n) = Took takes old given new
IsGiven takes misses old given new (Err (error.Refused r)) = Took takes old given new
IsGiven takes misses old given new (Err error.ReadFault) = Took takes old given new
IsGiven takes misses old given new (Err error.Turns) = Took takes old given new
IsGiven takes misses old given new (Err (error.Sink e)) = IsMissed takes misses e old given new

-- ---- bytes through a feed

-- these bytes went into the feed, which gave these items: they are spelled by what was held and the bytes, but for what is held now; and after
-- them, what follows has the same outcome
pub record IsFed (f : FeedState) (bytes : List ℕ) (xs : List (ℕ × Item)) (g : FeedState) : Type 0 where
  pub comes : (later : List ℕ) (v : Outcome) → Comes g.stage (g.held ++ later) v → Comes f.stage (f.held ++ (bytes ++ later)) (with_items xs v)
  pub spells : Spells f.stage xs (f.held ++ bytes) g.stage g.held

-- what was read has the outcome v, and its items are these
pub record IsPumped (f : FeedState) (bytes lost : List ℕ) (xs : List (ℕ × Item)) (g : FeedState) (v : Outcome) : Type 0 where
  pub fed : IsFed f bytes xs g
  pub comes : Comes f.stage (f.held ++ (bytes ++ lost)) v
  pub items : v.items ≡ xs
  pub number : v.number ≡ number_of g.stage

-- After a sink's fault only what went into the feed is known. Otherwise what was read has the outcome v: at its end the answer is the
-- verdict there, and nothing is lost; a refusal is that of the verdict, and the feed is refused with it, unless it stands only at the
-- end; else nothing is refused or lost.
abbrev pub IsPumpEnd : FeedState → List ℕ → List ℕ → List (ℕ × Item) → FeedState → Result ℕ PumpError → Type 0
IsPumpEnd f bytes lost xs g (Ok n) = (v : Outcome) × IsPumped f bytes lost xs g v × (lost ≡ []) × (verdict_at_end v ≡ Ok n)
IsPumpEnd f bytes lost xs g (Err (error.Refused r)) = (v : Outcome) × IsPumped f bytes lost xs g v × (r.reason ≡ EndInside → lost ≡ [])
    × (verdict_at_end v ≡ Err (finish.Refused r)) × ((r.reason ≡ EndInside) ⊎ IsAnswer g (Err r))
IsPumpEnd f bytes lost xs g (Err (error.Sink e)) = IsFed f bytes xs g
IsPumpEnd f bytes lost xs g (Err error.ReadFault) = (v : Outcome) × IsPumped f bytes lost xs g v × (lost ≡ []) × (v.refusal ≡ None)
IsPumpEnd f bytes lost xs g (Err error.Turns) = (v : Outcome) × IsPumped f bytes lost xs g v × (lost ≡ []) × (v.refusal ≡ None)

-- what a pump works on: what is seen of its source, its feed and its sink
pub record PumpState (S : Type 0) : Type 0 where
  pub source : SourceSeen
  pub feed : FeedState
  pub sink : S

abbrev pub pump_state : {S : Type 0} → SourceSeen → FeedState → S → PumpState S
pump_state source feed sink = record { source = source; feed = feed; sink = sink }

-- the source gave some bytes, and others, no more than a read gives, that are lost; these items came of them
abbrev pub IsPump : {S : Type 0} → (S → ℕ × Item → S → Type 0) → (S → ℕ × Item → SinkFault → S → Type 0) → ℕ → PumpState S → PumpState S
    → Result ℕ PumpError → Type 0
IsPump takes misses read before after r =
    (bytes : List ℕ) × (lost : List ℕ) × (xs : List (ℕ × Item)) × Consumes before.source.left after.source.left (bytes ++ lost)
    × IsGiven takes misses before.sink xs after.sink r × IsPumpEnd before.feed bytes lost xs after.feed r × (length lost ≤ read)

-- of the bytes that were left, if they are known, at most n were read
abbrev pub ConsumesAtMost : ℕ → Option (List ℕ) → Option (List ℕ) → Type 0
ConsumesAtMost n None new = ⊤
ConsumesAtMost n (Some xs) None = ⊥
ConsumesAtMost n (Some xs) (Some ys) = length xs ≤ length ys + n

-- each read gave at most n bytes, as long as the reads can be counted
abbrev pub IsReadBy : ℕ → SourceSeen → SourceSeen → Type 0
IsReadBy n before after = after.reads < 2 ^ 64 - 1 → ConsumesAtMost ((after.reads - before.reads) * n) before.left after.left

-- from the one state of the source to the other it gave bytes with which nothing is refused
abbrev pub IsOpenTo : FeedState → SourceSeen → SourceSeen → Type 0
IsOpenTo f before after =
    (bytes : List ℕ) × (v : Outcome) × Consumes before.left after.left bytes × Comes f.stage (f.held ++ bytes) v × (v.refusal ≡ None)

-- the answer stands only at the stream's end
abbrev pub IsEnd : Result ℕ PumpError → Type 0
IsEnd (Ok n) = ⊤
IsEnd (Err (error.Refused r)) = r.reason ≡ EndInside
IsEnd (Err (error.Sink e)) = ⊥
IsEnd (Err error.ReadFault) = ⊥
IsEnd (Err error.Turns) = ⊥

-- the sink didn't take an item
abbrev pub IsSinkFault : {A : Type 0} → Result A PumpError → Type 0
IsSinkFault (Err (error.Sink e)) = ⊤
IsSinkFault (Err (error.Refused r)) = ⊥
IsSinkFault (Err error.ReadFault) = ⊥
IsSinkFault (Err error.Turns) = ⊥
IsSinkFault (Ok a) = ⊥

-- a piece is read; or some first bytes of it, and what follows is refused, or the last item isn't taken
abbrev pub IsPieceEnd : FeedState → List ℕ → List (ℕ × Item) → FeedState → Result (Unit {0}) PumpError → Type 0
IsPieceEnd f piece xs g (Ok u) = IsFed f piece xs g × (is_closed g.stage g.held ≡ false)
IsPieceEnd f piece xs g (Err (error.Refused r)) = (n : ℕ) × IsFed f (take n piece) xs g × IsAnswer g (Err r)
IsPieceEnd f piece xs g (Err (error.Sink e)) = (n : ℕ) × IsFed f (take n piece) xs g
IsPieceEnd f piece xs g (Err error.ReadFault) = ⊥
IsPieceEnd f piece xs g (Err error.Turns) = ⊥

-- ---- for private contracts

-- these items were given: all of them are taken, or at a fault all but the last
abbrev pub IsHanded : {S : Type 0} → (S → ℕ × Item → S → Type 0) → (S → ℕ × Item → SinkFault → S → Type 0) → S → List (ℕ × Item) → S
    → Result (Unit {0}) SinkFault → Type 0
IsHanded takes misses old given new (Ok u) = Took takes old given new
IsHanded takes misses old given new (Err e) = IsMissed takes misses e old given new

-- the first n of these bytes are the message m, which leaves the order o'
pub record IsPassed (c : Context) (o : Order) (rest : List ℕ) (n : ℕ) (o' : Order) (m : Message) : Type 0 where
  pub least : 4 ≤ n
  pub within : n ≤ length rest
  pub most : n ≤ c.limit + 4
  pub read : IsReadAs c o (take n rest) m
  pub leaves : o' ≡ order_after o m

-- the sink was given this item: it took it, or answered a fault
abbrev pub IsOffered : {S : Type 0} → (S → ℕ × Item → S → Type 0) → (S → ℕ × Item → SinkFault → S → Type 0) → S → ℕ × Item → S → Result (Unit {0}) SinkFault
    → Type 0
IsOffered takes misses old x new r = MatchResult r (λ _. takes old x new) (λ e. misses old x e new)

-- bytes were read and went into the feed, all of them; or none, where the read failed
abbrev pub IsRead : FeedState → FeedState → SourceSeen → SourceSeen → Result ℕ Failed → Type 0
IsRead f g before after (Ok n) = (bytes : List ℕ) × (length bytes ≡ n) × (g ≡ with_bytes f bytes) × Consumes before.left after.left bytes
IsRead f g before after (Err e) = (g ≡ f) × Keeps before.left after.left

-- bytes were read: some went into the feed, and what follows them is this piece
abbrev pub IsReadOn : FeedState → FeedState → SourceSeen → SourceSeen → List ℕ → Type 0
IsReadOn f g before after piece = (bytes : List ℕ) × IsFed f bytes [] g × Consumes before.left after.left (bytes ++ piece)

-- how many bytes came
abbrev pub came : Result (ℕ × ℕ) Failed → Result ℕ Failed
came (Ok x) = Ok x.0
came (Err e) = Err e

-- the answer is the verdict at the stream's end
abbrev pub IsVerdictAtEnd : Outcome → Result ℕ PumpError → Type 0
IsVerdictAtEnd v (Ok n) = verdict_at_end v ≡ Ok n
IsVerdictAtEnd v (Err (error.Refused r)) = verdict_at_end v ≡ Err (finish.Refused r)
IsVerdictAtEnd v (Err (error.Sink e)) = ⊥
IsVerdictAtEnd v (Err error.ReadFault) = ⊥
IsVerdictAtEnd v (Err error.Turns) = ⊥

-- what is held has no further item, and the answer is the verdict at the stream's end
pub record IsEndOf (f : FeedState) (r : Result ℕ PumpError) : Type 0 where
  pub last : Outcome
  pub comes : Comes f.stage f.held last
  pub no_items : last.items ≡ []
  pub number : last.number ≡ number_of f.stage
  pub verdict : IsVerdictAtEnd last r
  pub at_end : IsEnd r
