-- The captured places that are noted.
use Rattle.std.specs.Prelude.{◌≡◌, ℕ, ◌+◌, ◌<◌, ◌≤◌, max, Bool, true, false, List, [], length, Option, Some, None, ◌⊎◌, is_some, if◌then◌else◌}
use Rattle.bt_tcp.specs.declared.covered.Span.{Span}
use Rattle.bt_tcp.specs.Covered.{is_covered, in_span, spans_of, AreApart, Adds, IsAlone}
use Rattle.bt_tcp.specs.Segments.{Segment, byte_at}
use Rattle.bt_flow.specs.declared.noted.Noted.{Noted}

abbrev pub spans_in : Noted → List Span
spans_in n = spans_of n.spans n.table.items

-- Unless the table is full, the span is noted.
abbrev pub NotesMore : Span → Noted → Noted → Type 0
NotesMore s n n' = n'.is_full ≡ false → (n.is_full ≡ false) × Adds s (spans_in n) (spans_in n')

-- From a place on: what was covered still is, and besides it only places of the span are.
pub record AddsSome (least : ℕ) (s : Span) (spans spans' : List Span) : Type 0 where
  pub stays : (i : ℕ) → least ≤ i → is_covered spans i ≡ true → is_covered spans' i ≡ true
  pub only : (i : ℕ) → least ≤ i → is_covered spans' i ≡ true → (if in_span s i then true else is_covered spans i) ≡ true

-- A place is covered now if it was before, or is in one of two spans.
abbrev pub AddsBoth : Span → Span → List Span → List Span → Type 0
AddsBoth first second spans spans' =
    (i : ℕ) → is_covered spans' i ≡ (if in_span second i then true else if in_span first i then true else is_covered spans i)

-- Unless the table is full, both spans are noted.
abbrev pub NotesBoth : Span → Span → Noted → Noted → Type 0
NotesBoth first second n n' = n'.is_full ≡ false → (n.is_full ≡ false) × AddsBoth first second (spans_in n) (spans_in n')

-- There are 1,024 spans, and another one touches none of them.
abbrev pub HasNoRoom : Span → List Span → Type 0
HasNoRoom s spans = (length spans ≡ 1024) × IsAlone s spans

-- The span is noted, or there is no room for it and nothing has changed.
abbrev pub AddsIfRoom : Span → List Span → List Span → Type 0
AddsIfRoom s spans spans' = Adds s spans spans' ⊎ ((spans' ≡ spans) × HasNoRoom s spans)

-- Two spans are noted so, one after the other.
abbrev pub AddsBothIfRoom : Span → Span → List Span → List Span → Type 0
AddsBothIfRoom first second spans spans' =
    (between : List Span) × AreApart 0 between × AddsIfRoom first spans between × AddsIfRoom second between spans'

-- There is no room for the first span, or none for the second beside it.
abbrev pub HasNoRoomFor : Span → Span → List Span → Type 0
HasNoRoomFor first second spans = HasNoRoom first spans ⊎ ((spans' : List Span) × AreApart 0 spans' × Adds first spans spans' × HasNoRoom second spans')

-- A span that begins before the base goes on to it.
abbrev pub ReachBase : ℕ → List Span → Type 0
ReachBase base spans = (i : ℕ) → i < base → is_covered spans i ≡ true → is_covered spans (i + 1) ≡ true

-- ---- with no memory before the first gap

abbrev pub spans_noted : Option Noted → List Span
spans_noted None = []
spans_noted (Some n) = spans_in n

abbrev pub is_full : Option Noted → Bool
is_full None = false
is_full (Some n) = n.is_full

-- Only places from the next one on matter.
abbrev pub NotesOne : ℕ → Span → Option Noted → Option Noted → Type 0
NotesOne next s o o' =
    is_full o' ≡ false → (is_full o ≡ false)
    × ((i : ℕ) → next ≤ i → is_covered (spans_noted o') i ≡ (if in_span s i then true else is_covered (spans_noted o) i))

-- The table becomes full only if there is no room for what was handed out, as a span, or for the new one beside it.
abbrev pub FillsOne : ℕ → ℕ → Span → Option Noted → Option Noted → Type 0
FillsOne base next s o o' = is_full o ≡ false → is_full o' ≡ true → HasNoRoomFor (record { from = base; to = next }) s (spans_noted o)

-- From the next place on only captured places are noted, and all of them, unless a gap is final or the table is full.
pub record AreNoted (lost : Bool) (segs : List Segment) (base next : ℕ) (o : Option Noted) : Type 0 where
  pub only : (i : ℕ) → next ≤ i → is_covered (spans_noted o) i ≡ true → is_some (byte_at segs i) ≡ true
  pub all : lost ≡ false → is_full o ≡ false → (i : ℕ) → next ≤ i → is_covered (spans_noted o) i ≡ is_some (byte_at segs i)
  -- Past the first gap all of them are noted, though it is final.
  pub past : is_full o ≡ false → (i j : ℕ) → next ≤ j → j ≤ i → is_covered (spans_noted o) j ≡ true
      → is_covered (spans_noted o) i ≡ is_some (byte_at segs i)
  -- The next place isn't noted.
  pub here : is_covered (spans_noted o) next ≡ false
  pub reach : ReachBase base (spans_noted o)

-- The gap at the next place goes on up to this one: that is noted, unless a segment with this end is before it.
pub record GoesUpTo (next «end» : ℕ) (o : Option Noted) (past : ℕ) : Type 0 where
  pub after : next < «end» → next < past
  pub missing : (i : ℕ) → next ≤ i → i < past → is_covered (spans_noted o) i ≡ false
  pub ends : past < «end» → is_covered (spans_noted o) past ≡ true

-- From where on a segment is noted: from its first place on, but after a gap was final not before the end of the gap.
-- The segment that makes a gap final may lie in it, but isn't noted at the next place.
abbrev pub IsNotedFrom : Bool → Bool → ℕ → ℕ → ℕ → Option Noted → ℕ → Type 0
IsNotedFrom was_lost false at «end» next o from = from ≡ at
IsNotedFrom false true at «end» next o from = from ≡ max at (next + 1)
IsNotedFrom true true at «end» next o from = (past : ℕ) × GoesUpTo next «end» o past × (from ≡ max at past)
