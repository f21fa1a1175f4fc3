-- A stream in which bytes are missing. Those of a block may be any bytes (BEP 3, "peer messages": piece).
use Rattle.std.specs.Prelude.{◌≡◌, ◌==◌, ℕ, ◌<◌, ◌≤◌, ◌-◌, ◌^◌, ◌&&◌, nat_le, List, [], ◌∷◌, ◌++◌, length, map, replicate, Option, Some, None, unwrap_or}
use Rattle.std.specs.Prelude.{if◌then◌else◌, false, ⊤}
use Rattle.bt_ext.specs.declared.ids.Rules.TheVariants.{Free, Bep}
use Rattle.bt_wire.specs.declared.context.Own.{Own}
use Rattle.bt_wire.specs.declared.item.Item.{Item}
use Rattle.bt_wire.specs.declared.item.Item.TheVariants as items
use Rattle.bt_wire.specs.declared.item.Refusal.{Refusal}
use Rattle.bt_wire.specs.declared.message.Message.TheVariants as m
use Rattle.bt_wire.specs.Faults.{said_id, window_length}
use Rattle.bt_wire.specs.Streams.{Outcome, IsVerdict}
use Rattle.bt_text.specs.declared.ended.Ended.{Ended}
use Rattle.bt_text.specs.Lines.{ended_as}
use Rattle.bt_feed.specs.declared.stage.Stage.{Stage}
use Rattle.bt_feed.specs.declared.stage.Stage.TheVariants as stage
use Rattle.bt_feed.specs.Feeds.{FeedState, with_bytes}
use Rattle.bt_feed.specs.Stages.{is_closed}
use Rattle.bt_judge.specs.Readings.{ReadingState}
use Rattle.bt_judge.specs.Judges.{under, AreJudged}
use Rattle.bt_judge.specs.declared.judge.Judge.{Judge}

-- ---- holes

-- the bytes of a stream, and none for each that is missing
abbrev pub Holed : Type 0
Holed = List (Option ℕ)

-- b fills the holes of h
abbrev pub Fills : Holed → List ℕ → Type 0
Fills [] [] = ⊤
Fills [] (y ∷ b) = ⊥
Fills (x ∷ h) [] = ⊥
Fills (Some x ∷ h) (y ∷ b) = (y ≡ x) × Fills h b
Fills (None ∷ h) (y ∷ b) = (y < 256) × Fills h b

-- zeros fill them
abbrev pub with_zeros : Holed → List ℕ
with_zeros h = map (λ x. unwrap_or x 0) h

-- ---- what is the same, whatever the bytes of blocks are

-- the item with zeros for the bytes of its block, if it has one
abbrev pub without_block : Item → Item
without_block (items.Message (m.Piece i b bytes)) = items.Message (m.Piece i b (replicate (length bytes) 0))
without_block item = item

abbrev pub without_blocks : List (ℕ × Item) → List (ℕ × Item)
without_blocks xs = map (λ x. (x.0, without_block x.1)) xs

-- the same items at the same offsets, but for the bytes of blocks
abbrev pub AreAlike : (xs ys : List (ℕ × Item)) → Type 0
AreAlike xs ys = without_blocks xs ≡ without_blocks ys

-- outcomes with such items, the same refusal or none, and the same that is awaited
pub record IsAlike (v w : Outcome) : Type 0 where
  pub items : AreAlike v.items w.items
  pub refusal : v.refusal ≡ w.refusal
  pub number : v.number ≡ w.number
  pub order : v.order ≡ w.order
  pub start : v.start ≡ w.start
  pub tail : length v.tail ≡ length w.tail

-- The n bytes after b may be any: with others in their place, whatever follows, the stream has such an outcome.
abbrev pub MayBeAny : Own → List ℕ → ℕ → Type 0
MayBeAny own b n =
    (x y later : List ℕ) (v : Outcome) → length x ≤ n → length y ≡ length x → IsVerdict own (b ++ (x ++ later)) v
    → (w : Outcome) × IsVerdict own (b ++ (y ++ later)) w × IsAlike v w

-- each missing byte of h may be any, after z and what of h comes before it
abbrev pub MayMiss : Own → List ℕ → Holed → Type 0
MayMiss own z [] = ⊤
MayMiss own z (Some x ∷ h) = MayMiss own (z ++ x ∷ []) h
MayMiss own z (None ∷ h) = MayBeAny own z 1 × MayMiss own (z ++ 0 ∷ []) h

-- every filling of h, whatever follows, begins with these items, but for their blocks
abbrev pub Shows : Own → Holed → List (ℕ × Item) → Type 0
Shows own h xs =
    (b later : List ℕ) (v : Outcome) → Fills h b → IsVerdict own (b ++ later) v
    → (ys : List (ℕ × Item)) × (more : List (ℕ × Item)) × (v.items ≡ ys ++ more) × AreAlike xs ys

-- every filling of h is refused so, and so is all that begins with one; or none is refused
abbrev pub IsStandingOf : Own → Holed → Option Refusal → Type 0
IsStandingOf own h None = (b : List ℕ) (v : Outcome) → Fills h b → IsVerdict own b v → v.refusal ≡ None
IsStandingOf own h (Some r) = (b later : List ℕ) (v : Outcome) → Fills h b → IsVerdict own (b ++ later) v → v.refusal ≡ Some r

-- the verdict of every filling of h, if the stream ends there
abbrev pub IsToldOf : Own → Holed → Ended → Type 0
IsToldOf own h e = (b : List ℕ) (v : Outcome) → Fills h b → IsVerdict own b v → e ≡ ended_as v (length b)

-- ---- how many of the next bytes may be any

-- A piece begins with its length, its id, its index and its begin: these are 13 bytes. What it lacks after them is of its block.
abbrev pub lacked_by : List ℕ → ℕ
lacked_by b = if nat_le 13 (length b) && (said_id b == 7) then window_length b - length b else 0

abbrev pub lacked : Stage → List ℕ → ℕ
lacked (stage.Handshake own) b = 0
lacked (stage.Message c o s n) b = lacked_by b

-- after a refusal any number
abbrev pub unless_refused : Option Refusal → ℕ → ℕ
unless_refused (Some r) n = 2 ^ 64 - 1
unless_refused None n = n

abbrev pub free_after : ReadingState → ℕ
free_after r = unless_refused r.refused (lacked r.feed.stage r.feed.held)

-- by both rule sets: once the strict ones have refused the stream, any bytes are as good to them
abbrev pub free_by : ReadingState → Option ReadingState → ℕ
free_by bep None = free_after bep
free_by bep (Some free) = free_after free

abbrev pub free_of : Judge → ℕ
free_of j = free_by j.bep j.free

abbrev pub MayBeAnyByBoth : Own → List ℕ → ℕ → Type 0
MayBeAnyByBoth own b n = MayBeAny (under Free own) b n × MayBeAny (under Bep own) b n

-- h was taken, and passed where bytes are missing: it is judged with zeros there, and these may be any
pub record AreJudgedOver (own : Own) (h : Holed) (xs ys : List (ℕ × Item)) (j : Judge) : Type 0 where
  pub judged : AreJudged own (with_zeros h) xs ys j
  pub free : MayMiss (under Free own) [] h
  pub bep : MayMiss (under Bep own) [] h

-- ---- for private contracts

-- of n zeros the first ones went into the feed: all, if it waits for its item and that lacks more
pub record AreZerosPushed (f : FeedState) (n : ℕ) (g : FeedState) : Type 0 where
  pub count : ℕ
  pub within : count ≤ n
  pub is : g ≡ with_bytes f (replicate count 0)
  pub all : is_closed f.stage f.held ≡ false → n < lacked f.stage f.held → count ≡ n
