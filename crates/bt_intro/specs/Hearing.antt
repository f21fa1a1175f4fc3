-- What the front of what one side sends says of that side.
use Rattle.std.specs.Prelude.{◌≡◌, ◌≤◌, ◌⊎◌, ◌↔◌, ℕ, Bool, true, IsTrue, List, [], length, drop, Option, Some, None, IsSome, Box}
use Rattle.std.specs.declared.alloc.Global.{Global}
use Rattle.bt_wire.specs.declared.item.Item.{Item}
use Rattle.bt_wire.specs.Streams.{Outcome, IsVerdict, awaiting}
use Rattle.bt_judge.specs.Readings.{IsJudged}
use Rattle.bt_jobs.specs.Others.{reader_of_other}
use Rattle.bt_intro.specs.declared.introduction.Introduction.{Introduction}
use Rattle.bt_intro.specs.declared.voice.Voice.{Voice}
use Rattle.bt_intro.specs.declared.voice.Reader.{Reader}
use Rattle.bt_intro.specs.declared.voice.Reader.TheVariants.{Open, Settled}
use Rattle.bt_intro.specs.Hellos.{IsFirstHello, HasNoHello}
use Rattle.bt_intro.specs.Listening.{IsHeard, has_extended}

-- The verdict of what a side sends, from its handshake on, as `--other` reads it; nothing is said without one.
abbrev pub IsSaid : List ℕ → Outcome → Type 0
IsSaid front v = (HasNoHello front × (v ≡ awaiting None [])) ⊎ ((k : ℕ) × IsFirstHello front k × IsVerdict reader_of_other (drop k front) v)

-- nothing more is awaited: an extended handshake came, or a refusal, or the handshake and 1,000 messages
abbrev pub HasSaidAll : Outcome → Type 0
HasSaidAll v = (has_extended v.items ≡ true) ⊎ (IsSome v.refusal ⊎ (1001 ≤ length v.items))

-- ---- what was heard

-- These bytes were read, and have these items. What is settled knows only whether they are refused.
abbrev pub IsReadBy : List ℕ → List (ℕ × Item) → Reader → Type 0
IsReadBy b items (Open reading) = IsJudged reader_of_other b items reading
IsReadBy b items (Settled refused) = (v : Outcome) × IsVerdict reader_of_other b v × (v.items ≡ items) × (IsTrue refused ↔ IsSome v.refusal)

-- they were heard by the listener
pub record IsVoiceOf (b : List ℕ) (voice : Voice) : Type 0 where
  pub items : List (ℕ × Item)
  pub read : IsReadBy b items voice.reader
  pub heard : IsHeard items voice.listener

abbrev pub HasNoReader : Voice → Type 0
HasNoReader voice = (refused : Bool) × (voice.reader ≡ Settled refused)

-- a voice, in memory of its own
abbrev pub Held : Type 0
Held = Box Voice Global

abbrev pub IsVoiced : List ℕ → Option Held → Type 0
IsVoiced front None = HasNoHello front
IsVoiced front (Some voice) = IsFirstHello front voice.value.start × IsVoiceOf (drop voice.value.start front) voice.value

-- all of this front was heard
pub record IsHeardOf (front : List ℕ) (intro : Introduction) : Type 0 where
  pub all : intro.heard ≡ length front
  pub voiced : IsVoiced front intro.voice

-- Without a reader it holds no memory.
abbrev pub IsSettled : Option Held → Type 0
IsSettled None = Unit {0}
IsSettled (Some voice) = HasNoReader voice.value

abbrev pub HasNoMemory : Introduction → Type 0
HasNoMemory intro = IsSettled intro.voice
