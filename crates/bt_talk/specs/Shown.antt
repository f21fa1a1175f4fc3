-- The rows that show the items of both sides, as they come.
use Rattle.std.specs.Prelude.{◌≡◌, ℕ, Bool, List, [], ◌∷◌, ◌++◌, Option, Some, None, if◌then◌else◌}
use Rattle.bt_remarks.specs.declared.events.Side.{Side}
use Rattle.bt_remarks.specs.Remarked.{remarks_on}
use Rattle.bt_remarks.specs.Said.{Told, is_same}
use Rattle.bt_rows.specs.declared.parts.Means.{Means}
use Rattle.bt_rows.specs.declared.rows.Deed.TheVariants as deed
use Rattle.bt_rows.specs.declared.said.Said.{Said}
use Rattle.bt_wire.specs.declared.item.Item.{Item}
use Rattle.bt_wire.specs.declared.item.Refusal.{Refusal}
use Rattle.bt_talk.specs.declared.closing.When.{When}
use Rattle.bt_talk.specs.declared.rows.Heading.{Heading}
use Rattle.bt_talk.specs.declared.rows.Rows.{Rows}
use Rattle.bt_talk.specs.declared.watch.Watch.{Watch}
use Rattle.bt_talk.specs.Courses.{close_rows, refusal_rows}
use Rattle.bt_talk.specs.Rows.{Shown, row_at}
use Rattle.bt_talk.specs.Shows.{Appends}
use Rattle.bt_talk.specs.Watching.{IsSaid, IsWatched, told_of, tell, with_items}

-- The row shows an item of a side, which came with this packet after these events: its offset, its words, and the remarks on it.
pub record IsItemRow (h : Heading) (when : When) (side : Side) (known : Bool) (x : ℕ × Item) (events : List Told) (r : Shown) : Type 0 where
  pub said : Said
  pub is_said : IsSaid x said
  pub is : r ≡ row_at h when side said.offset (deed.Item said.words) (remarks_on (told_of side known x) events)

-- These rows show these items of a side, one for each, in order.
abbrev pub AreItemRows : Heading → When → Side → Bool → List (ℕ × Item) → List Told → List Shown → Type 0
AreItemRows h when side known [] events rows = rows ≡ []
AreItemRows h when side known (x ∷ xs) events [] = ⊥
AreItemRows h when side known (x ∷ xs) events (r ∷ rs) =
    IsItemRow h when side known x events r × AreItemRows h when side known xs (told_of side known x ∷ events) rs

-- Further items of a side came with this packet. They follow the events that came before, and these rows show them.
pub record IsShown (h : Heading) (when : When) (side : Side) (known : Bool) (more : List (ℕ × Item)) (events : List Told)
    (items : Side → List (ℕ × Item)) (w' : Watch) (rows : List Shown) : Type 0 where
  pub watched : IsWatched (tell side known more events) (with_items side more items) w'
  pub shown : AreItemRows h when side known more events rows

-- Further items of a side came, and their rows.
abbrev pub GoesShown : Side → Bool → List (ℕ × Item) → Watch → Watch → Type 0
GoesShown side known more w w' = (events : List Told) (items : Side → List (ℕ × Item)) → IsWatched events items w
    → (rows : List Shown) × IsShown w.rows.heading w.when side known more events items w' rows × Appends rows w.rows w'.rows × (w'.when ≡ w.when)

-- ---- turns

-- what a side did in a turn besides its items: a refusal of its stream stands since then, and it closed after so many bytes
pub record Deeds : Type 0 where
  pub refused : Option Refusal
  pub closed : Option (ℕ × Means)

abbrev pub no_deeds : Deeds
no_deeds = record { refused = None; closed = None }

-- a refusal that stands now, if none stood before
abbrev pub newly : Option Refusal → Option Refusal → Option Refusal
newly None now = now
newly (Some r) now = None

-- items of a side that came with a packet, and what the side did besides
pub record Turn : Type 0 where
  pub side : Side
  pub known : Bool
  pub when : When
  pub items : List (ℕ × Item)
  pub deeds : Deeds

-- the events of turns; of both the newest stands first
abbrev pub told_by : List Turn → List Told
told_by [] = []
told_by (t ∷ earlier) = tell t.side t.known t.items (told_by earlier)

-- the items of a side in turns
abbrev pub items_by : Side → List Turn → List (ℕ × Item)
items_by side [] = []
items_by side (t ∷ earlier) = if is_same t.side side then items_by side earlier ++ t.items else items_by side earlier

abbrev pub closing_rows : Heading → When → Side → Option (ℕ × Means) → List Shown
closing_rows h when side None = []
closing_rows h when side (Some c) = close_rows h when side c.0 (Some c.1)

-- the rows of what a side did besides items: of a refusal, and then of a close
abbrev pub deed_rows : Heading → When → Side → Deeds → List Shown
deed_rows h when side d = refusal_rows h when side None d.refused ++ closing_rows h when side d.closed

-- The rows of a turn that follows these events: one for each of its items, in order, and then those of what its side did besides.
abbrev pub AreRowsOfTurn : Heading → Turn → List Told → List Shown → Type 0
AreRowsOfTurn h t events rows =
    (mine : List Shown) × (rows ≡ mine ++ deed_rows h t.when t.side t.deeds) × AreItemRows h t.when t.side t.known t.items events mine

-- These are the rows of turns, in order.
abbrev pub AreTurnRows : Heading → List Turn → List Shown → Type 0
AreTurnRows h [] rows = rows ≡ []
AreTurnRows h (t ∷ earlier) rows =
    (before : List Shown) × (mine : List Shown) × (rows ≡ before ++ mine) × AreTurnRows h earlier before × AreRowsOfTurn h t (told_by earlier) mine

-- These turns came. Since there were the rows r, these are their rows.
pub record IsSeen (r : Rows) (turns : List Turn) (w : Watch) : Type 0 where
  pub watched : IsWatched (told_by turns) (λ side. items_by side turns) w
  pub rows : List Shown
  pub appends : Appends rows r w.rows
  pub shown : AreTurnRows r.heading turns rows
