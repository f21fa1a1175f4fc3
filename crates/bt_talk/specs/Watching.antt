-- What is kept of the items of both sides, as they come.
use Rattle.std.specs.Prelude.{◌≡◌, ℕ, Bool, List, [], ◌∷◌, ◌++◌, Option, Some, None, if◌then◌else◌}
use Rattle.bt_remarks.specs.declared.events.Remarks.{Remarks}
use Rattle.bt_remarks.specs.declared.tallies.Found.{Found}
use Rattle.bt_remarks.specs.declared.events.Side.{Side}
use Rattle.bt_remarks.specs.declared.events.Side.TheVariants.{A, B}
use Rattle.bt_remarks.specs.Matched.{IsMatched}
use Rattle.bt_remarks.specs.Remarked.{remarks_on, tally_of}
use Rattle.bt_remarks.specs.Said.{Told, Message, is_same}
use Rattle.bt_text.specs.Lines.{words as words_of}
use Rattle.bt_rows.specs.declared.noted.Noted.{Noted}
use Rattle.bt_rows.specs.declared.noted.Remarked.{Remarked}
use Rattle.bt_rows.specs.declared.rows.Deed.TheVariants as deed
use Rattle.bt_rows.specs.declared.said.Said.{Said}
use Rattle.bt_rows.specs.Said.{words_text}
use Rattle.bt_wire.specs.declared.item.Item.{Item}
use Rattle.bt_talk.specs.declared.watch.Watch.{Watch}
use Rattle.bt_talk.specs.Events.{event_of}
use Rattle.bt_talk.specs.Kept.{Kept, noted}
use Rattle.bt_talk.specs.Rows.{row_at}
use Rattle.bt_talk.specs.Shows.{Appends}

-- The offset and the words are those of the item.
pub record IsSaid (x : ℕ × Item) (said : Said) : Type 0 where
  pub offset : said.offset ≡ x.0
  pub words : words_text said.words ≡ words_of x.1

-- ---- the events of both sides

-- an item as an event of its sender, with its offset
abbrev pub told_of : Side → Bool → ℕ × Item → Told
told_of side known x = record { side = side; message = event_of x.1; known = known; mark = x.0 }

-- the events after these items of a side; the newest stands first
abbrev pub tell : Side → Bool → List (ℕ × Item) → List Told → List Told
tell side known [] events = events
tell side known (x ∷ xs) events = tell side known xs (told_of side known x ∷ events)

-- the offsets and messages of a side, in the order in which it sent them
abbrev pub said_by : Side → List Told → List (ℕ × Message)
said_by side [] = []
said_by side (e ∷ earlier) = if is_same e.side side then said_by side earlier ++ (e.mark, e.message) ∷ [] else said_by side earlier

abbrev pub messages_of : List (ℕ × Item) → List (ℕ × Message)
messages_of [] = []
messages_of (x ∷ xs) = (x.0, event_of x.1) ∷ messages_of xs

-- ---- what is kept of a side's items

-- an item among these starts at this offset, and has these words
pub record IsAmong (xs : List (ℕ × Item)) (offset : ℕ) (said : Said) : Type 0 where
  pub before : List (ℕ × Item)
  pub item : ℕ × Item
  pub after : List (ℕ × Item)
  pub parts : xs ≡ before ++ item ∷ after
  pub place : item.0 ≡ offset
  pub is : IsSaid item said

-- the item that starts at this offset, if there is one
abbrev pub IsItemAt : List (ℕ × Item) → Option ℕ → Option Said → Type 0
IsItemAt xs None None = Unit {0}
IsItemAt xs None (Some said) = ⊥
IsItemAt xs (Some offset) None = ⊥
IsItemAt xs (Some offset) (Some said) = IsAmong xs offset said

-- the last of the items
abbrev pub IsLast : List (ℕ × Item) → Option Said → Type 0
IsLast xs None = xs ≡ []
IsLast xs (Some said) = (before : List (ℕ × Item)) × (x : ℕ × Item) × (xs ≡ before ++ x ∷ []) × IsSaid x said

-- The events of a side are its items; of these the last one is kept, and the first one with each remark.
pub record AreNoted (side : Side) (events : List Told) (xs : List (ℕ × Item)) (notes : Kept) : Type 0 where
  pub said : said_by side events ≡ messages_of xs
  pub last : IsLast xs notes.last
  pub unasked : IsItemAt xs (tally_of side events).unasked.first notes.firsts.unasked
  pub choked : IsItemAt xs (tally_of side events).choked.first notes.firsts.choked
  pub again : IsItemAt xs (tally_of side events).again.first notes.firsts.again
  pub elsewhere : IsItemAt xs (tally_of side events).elsewhere.first notes.firsts.elsewhere

-- as many items have a remark, and the first of them is this one
abbrev pub IsNoted : Found → List (ℕ × Item) → Option Noted → Type 0
IsNoted found xs None = found.first ≡ None
IsNoted found xs (Some noted) = (noted.count ≡ found.count) × IsItemAt xs found.first (Some noted.first)

-- These are the remarks on a side's items.
pub record AreRemarked (side : Side) (events : List Told) (xs : List (ℕ × Item)) (r : Remarked) : Type 0 where
  pub said : said_by side events ≡ messages_of xs
  pub unasked : IsNoted (tally_of side events).unasked xs r.unasked
  pub choked : IsNoted (tally_of side events).choked xs r.choked
  pub again : IsNoted (tally_of side events).again xs r.again
  pub elsewhere : IsNoted (tally_of side events).elsewhere xs r.elsewhere

abbrev pub notes_of : Side → Watch → Kept
notes_of A w = w.a
notes_of B w = w.b

-- These are the items of each side, and the events of both in the order in which they came.
pub record IsWatched (events : List Told) (items : Side → List (ℕ × Item)) (w : Watch) : Type 0 where
  pub matched : IsMatched events w.matcher
  pub notes : (side : Side) → AreNoted side events (items side) (notes_of side w)

-- further items of a side
abbrev pub with_items : Side → List (ℕ × Item) → (Side → List (ℕ × Item)) → Side → List (ℕ × Item)
with_items side more items s = if is_same side s then items s ++ more else items s

-- ---- one item

-- One item more, of the side whose bytes are read, and its row.
pub record Watches (old : Watch) (x : ℕ × Item) (new : Watch) : Type 0 where
  pub side : new.side ≡ old.side
  pub known : new.known ≡ old.known
  pub when : new.when ≡ old.when
  pub said : Said
  pub is : IsSaid x said
  pub remarks : Remarks
  pub rows : Appends (row_at old.rows.heading old.when old.side said.offset (deed.Item said.words) remarks ∷ []) old.rows new.rows
  pub notes : (s : Side) → notes_of s new ≡ (if is_same old.side s then noted remarks said (notes_of s old) else notes_of s old)
  pub matched : (events : List Told) → IsMatched events old.matcher → (remarks ≡ remarks_on (told_of old.side old.known x) events)
      × IsMatched (told_of old.side old.known x ∷ events) new.matcher
