-- For private contracts alone: how far a script is packed.
use Rattle.std.specs.Prelude.{◌≡◌, ◌⊎◌, ℕ, ◌+◌, ◌*◌, ◌^◌, ◌≤◌, ◌<◌, Bool, true, false, List, [], ◌∷◌, ◌++◌, length, take, Option, Some, None, Result, Ok, Err}
use Rattle.bt_feed.specs.declared.stage.Stage.{Stage}
use Rattle.bt_feed.specs.declared.stage.Stage.TheVariants as stage
use Rattle.bt_feed.specs.Feeds.{FeedState, waiting}
use Rattle.bt_feed.specs.Stages.{start_of, number_of, limit_of, is_closed, HasFault, IsItem, stage_after, Comes}
use Rattle.bt_feed.specs.Transcripts.{with_items}
use Rattle.bt_wire.specs.declared.context.Own.{Own}
use Rattle.bt_wire.specs.declared.fault.Reason.{Reason}
use Rattle.bt_wire.specs.declared.fault.Refused.{Refused as Fault}
use Rattle.bt_wire.specs.declared.item.Item.{Item}
use Rattle.bt_wire.specs.Streams.{Outcome, IsVerdict}
use Rattle.bt_text.specs.declared.ended.ScriptReason.{ScriptReason}
use Rattle.bt_jobs.specs.Packs.{IsSplit, IsEndedLine, AreLines, IsNamed, AreNamed, AreTaken, IsNotTaken, IsStop, IsPacked, is_none}
use Rattle.bt_text.specs.declared.ended.PackEnd.{PackEnd}

-- ---- whole items

-- what is known of a stream whose items are taken one at a time has its numbers in these ranges
pub record IsWithin (t : Stage) : Type 0 where
  pub limit : limit_of t ≤ 1048576
  pub start : start_of t ≤ 2 ^ 62 + 1048580
  pub number : number_of t ≤ start_of t + 1

-- the bytes begin with an item, and go on after it
abbrev pub IsLonger : Stage → List ℕ → Type 0
IsLonger t b = (n : ℕ) × (n < length b) × ((item : Item) × IsItem t (take n b) item)

-- the bytes are an item, which is taken; or they are less or more than one; or they have a fault, which is refused for this reason
abbrev pub IsJudged : FeedState → List ℕ → FeedState → Result Bool Reason → Type 0
IsJudged j b k (Ok true) = (item : Item) × IsItem j.stage b item × (k ≡ waiting (stage_after j.stage (length b) item))
IsJudged j b k (Ok false) = (k ≡ j) × ((is_closed j.stage b ≡ false) ⊎ IsLonger j.stage b)
IsJudged j b k (Err reason) = (k ≡ j) × ((f : Fault) × HasFault j.stage b f × (reason ≡ f.reason))

-- ---- lines

abbrev pub is_hand : Stage → Bool
is_hand (stage.Handshake own) = true
is_hand (stage.Message c o s n) = false

-- the lines are taken, they name b, and the judge f waits for what follows their items
pub record IsPackedTo (own : Own) (lines : List (List ℕ)) (b : List ℕ) (f : FeedState) : Type 0 where
  pub named : AreNamed own.limit true lines b
  pub items : List (ℕ × Item)
  pub comes : (later : List ℕ) (v : Outcome) → Comes f.stage later v → IsVerdict own (b ++ later) (with_items items v)
  pub empty : f.held ≡ []
  pub first : is_hand f.stage ≡ is_none lines
  pub count : number_of f.stage ≡ length lines
  pub limit : limit_of f.stage ≡ own.limit
  pub bound : own.limit ≤ 1048576

-- the lines that are taken, the bytes that they name, and those of them that aren't written yet
pub record Packing : Type 0 where
  pub lines : List (List ℕ)
  pub bytes : List ℕ
  pub out : List ℕ

abbrev pub packing : List (List ℕ) → List ℕ → List ℕ → Packing
packing lines bytes out = record { lines = lines; bytes = bytes; out = out }

-- what a packer has: the first part of the present line, its judge, and the bytes that aren't written yet
pub record Packer : Type 0 where
  pub line : List ℕ
  pub judge : FeedState
  pub out : List ℕ

abbrev pub packer : List ℕ → FeedState → List ℕ → Packer
packer line judge out = record { line = line; judge = judge; out = out }

-- the bytes that a line names follow the others
pub record IsNamedAfter (limit : ℕ) (first : Bool) (text old new : List ℕ) : Type 0 where
  pub bytes : List ℕ
  pub named : IsNamed limit first text bytes
  pub joined : new ≡ old ++ bytes

-- a line is taken, and its bytes are put after the others; or it isn't
abbrev pub IsLineEnd : Own → Packing → List ℕ → FeedState → List ℕ → Option ScriptReason → Type 0
IsLineEnd own p text g out None = (x : List ℕ) × (out ≡ p.out ++ x) × IsPackedTo own (p.lines ++ text ∷ []) (p.bytes ++ x) g
IsLineEnd own p text g out (Some reason) = (out ≡ p.out) × (number_of g.stage ≡ length p.lines)
    × ((v : Outcome) × AreTaken own p.lines p.bytes v × IsNotTaken own (is_none p.lines) text p.bytes v reason)

-- what was read is these lines, which are taken, and the first part of the next
pub record IsReadSo (own : Own) (text : List ℕ) (lines : List (List ℕ)) (b held : List ℕ) (f : FeedState) : Type 0 where
  pub split : IsSplit text lines held
  pub packed : IsPackedTo own lines b f

-- a piece of the script is read, or it has a line that isn't taken
abbrev pub IsPieceRead : Own → List ℕ → Packing → Packer → Option ScriptReason → Type 0
IsPieceRead own text p q None = (more : List (List ℕ)) × (x : List ℕ) × (q.out ≡ p.out ++ x)
    × IsReadSo own text (p.lines ++ more) (p.bytes ++ x) q.line q.judge
IsPieceRead own text p q (Some reason) = (x : List ℕ) × (q.out ≡ p.out ++ x)
    × ((all : List (List ℕ)) × AreLines text all × IsStop own all (p.bytes ++ x) (number_of q.judge.stage + 1) reason)
    × IsEndedLine own.limit text (number_of q.judge.stage + 1)

-- What was read of the piece so far: `done`, which `rest` follows. Its lines `more` are taken and name `named`; `q` is where the packer stands.
pub record IsDone (own : Own) (text : List ℕ) (p : Packing) (piece rest : List ℕ) (q : Packer) : Type 0 where
  pub done : List ℕ
  pub parts : piece ≡ done ++ rest
  pub more : List (List ℕ)
  pub named : List ℕ
  pub grown : q.out ≡ p.out ++ named
  pub read : IsReadSo own (text ++ done) (p.lines ++ more) (p.bytes ++ named) q.line q.judge

-- the bytes follow those of the present line, or it is too long with them and as it was
abbrev pub IsHeld : ℕ → List ℕ → List ℕ → List ℕ → Bool → Type 0
IsHeld limit old more new true = (new ≡ old ++ more) × (length (old ++ more) ≤ 2 * limit + 256)
IsHeld limit old more new false = (new ≡ old) × (2 * limit + 256 < length (old ++ more))

-- the text is all of the script: the result of packing its lines
abbrev pub IsScriptEnd : Own → List ℕ → List ℕ → List ℕ → List ℕ → PackEnd → Type 0
IsScriptEnd own text b out out' e = (x : List ℕ) × (out' ≡ out ++ x) × ((all : List (List ℕ)) × AreLines text all × IsPacked own all (b ++ x) e)
