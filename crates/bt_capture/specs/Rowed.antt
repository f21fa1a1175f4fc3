-- The rows of a connection, by the segments that it took.
use Rattle.bt_talk.specs.declared.terms.Terms.{Terms}
use Rattle.std.specs.Prelude.{◌≡◌, ℕ, ◌-◌, ◌^◌, ◌<◌, Bool, true, false, List, [], ◌∷◌, ◌++◌, length}
use Rattle.std.specs.List.{All}
use Rattle.bt_talk.specs.declared.rows.Heading.{Heading}
use Rattle.bt_talk.specs.Rooms.{heading_by}
use Rattle.bt_talk.specs.Rows.{Shown}
use Rattle.bt_talk.specs.Shown.{AreTurnRows}
use Rattle.bt_talk.specs.Talks.{is_lost}
use Rattle.bt_talk.specs.declared.talk.Talk.{Talk}
use Rattle.bt_capture.specs.Arrivals.{Arrival}
use Rattle.bt_capture.specs.Connections.{IsMade}
use Rattle.bt_capture.specs.declared.connection.Connection.{Connection}
use Rattle.bt_capture.specs.declared.ending.Form.{Form}
use Rattle.bt_capture.specs.Forms.{showing_by}
use Rattle.bt_capture.specs.Tellings.{OfRows, Part, rows_of}

-- how the rows of the connection with this number are told; the capture starts at the time `from`
abbrev pub heading_of : Form → (number from : ℕ) → Heading
heading_of form number from = heading_by (showing_by form) number from

-- The connection took these segments, and more are still to be taken. These are the rows of its turns, if memory didn't run out.
abbrev pub HasShown : Heading → List Shown → Terms → (taken more : List Arrival) → Connection → Type 0
HasShown h rows terms taken more c =
    is_lost c.talk ≡ false → (m : IsMade terms taken more c.talk) × AreTurnRows h m.made.turns rows

-- ---- when they are told

-- These are the rows of a connection once it took these segments. More are still to be taken.
abbrev pub AreRowsAfter : Heading → Terms → (taken more : List Arrival) → List Shown → Type 0
AreRowsAfter h terms taken more rows = (t : Talk) × (m : IsMade terms taken more t) × AreTurnRows h m.made.turns rows

-- The connection took the segment x after these. The rows that come with it are told at once, with its packet, after those that came before. The part at
-- each place is told with the packet of this number.
pub record AreToldWithSegment (h : Heading) (terms : Terms) (packet : ℕ → ℕ) (parts : List Part) (taken : List Arrival) (x : Arrival) : Type 0 where
  pub before : List Part
  pub rows : List Shown
  pub after : List Part
  pub is : parts ≡ before ++ OfRows rows ∷ after
  pub told_with : packet (length before) ≡ x.when.packet
  pub had : AreRowsAfter h terms taken (x ∷ []) (rows_of h.connection before)
  pub has : AreRowsAfter h terms (taken ++ x ∷ []) [] (rows_of h.connection before ++ rows)

-- So are the rows of each of these segments of a connection.
abbrev pub AreToldInTime : Heading → Terms → (ℕ → ℕ) → List Part → List Arrival → Type 0
AreToldInTime h terms packet parts taken =
    (early : List Arrival) (x : Arrival) (late : List Arrival) → taken ≡ early ++ x ∷ late → AreToldWithSegment h terms packet parts early x

abbrev pub AreGone : Bool → List Arrival → Type 0
AreGone true gone = (x : Arrival) × (later : List Arrival) × (gone ≡ x ∷ later)
AreGone false gone = gone ≡ []

-- A connection took these segments. Memory ran out with one of them, or with none: its rows so far are those of the segments before, each told with its
-- segment. More are still to be taken.
pub record AreRowsSoFar (h : Heading) (terms : Terms) (packet : ℕ → ℕ) (parts : List Part) (taken more : List Arrival) (ran_out : Bool) : Type 0 where
  pub kept : List Arrival
  pub gone : List Arrival
  pub is : taken ≡ kept ++ gone
  pub are_gone : AreGone ran_out gone
  pub rows : AreRowsAfter h terms kept (gone ++ more) (rows_of h.connection parts)
  pub in_time : AreToldInTime h terms packet parts kept

-- Among the parts these are the rows of this connection, each told with its segment. A number below 2 ^ 64 - 1 is of one connection only.
abbrev pub IsShowing : Form → (ℕ → ℕ) → List Part → Terms → (from : ℕ) → (taken more : List Arrival) → Connection → Type 0
IsShowing form packet parts terms from taken more c =
    (rows : List Shown) × HasShown (heading_of form c.number from) rows terms taken more c × (c.number < 2 ^ 64 - 1 → rows_of c.number parts ≡ rows)
    × (c.number < 2 ^ 64 - 1 → AreRowsSoFar (heading_of form c.number from) terms packet parts taken more (is_lost c.talk))

-- ---- a segment more

-- The rows are of the connection with this number.
abbrev pub AreOf : ℕ → List Shown → Type 0
AreOf n rows = All (λ s. s.row.connection ≡ n) rows

-- The connection c took the segment x after these. These are its rows, after those that it had before. There are none if memory ran out.
pub record ShowsOn (h : Heading) (before rows : List Shown) (terms : Terms) (taken : List Arrival) (x : Arrival) (c c' : Connection) : Type 0 where
  pub there : is_lost c'.talk ≡ false → is_lost c.talk ≡ false
  pub none : is_lost c'.talk ≡ true → rows ≡ []
  pub are_of : AreOf h.connection rows
  pub shown : HasShown h (before ++ rows) terms (taken ++ x ∷ []) [] c'
