-- A stream from its base on: what it has handed out of the segments that it has taken.
use Rattle.std.specs.Prelude.{◌≡◌, ℕ, ◌+◌, ◌-◌, ◌<◌, ◌≤◌, ◌^◌, ◌==◌, ◌&&◌, if◌then◌else◌, min, Bool, true, false, List, [], ◌∷◌, ◌++◌, length, drop, Option, None}
use Rattle.bt_tcp.specs.Segments.{Segment, IsFront, IsStream}
use Rattle.bt_tcp.specs.Windows.{IsTaken}
use Rattle.bt_tcp.specs.History.{IsHistory, conflicts, kept, held}
use Rattle.bt_flow.specs.declared.stream.Stream.{Stream}
use Rattle.bt_flow.specs.Wide.{next_of, seen}
use Rattle.bt_flow.specs.Views.{IsNear}

-- the bytes after the last hole that was passed, or all of them
abbrev pub since_hole : List ℕ → Stream → List ℕ
since_hole out s = drop (s.resumed - s.base) out

-- Of these segments the bytes `out` were handed out. Until a gap is final they are the whole stream, and after that a prefix of it, and no bytes are ahead.
-- For each hole that was passed one of the segments is its bytes, whatever they are.
pub record IsStreamOf (segs : List Segment) (out : List ℕ) (s : Stream) : Type 0 where
  pub next_is : next_of s.window ≡ s.base + length out
  pub front : IsFront segs s.base out
  pub resumed : s.base ≤ s.resumed
  pub reached : s.resumed ≤ next_of s.window
  pub history : IsHistory s.history.items (since_hole out s)
  pub taken : s.is_lost ≡ false → IsTaken segs s.base out (next_of s.window) (seen s.window)
  pub stream : s.is_lost ≡ false → IsStream segs s.base out
  pub none : s.is_lost ≡ true → (k : ℕ) → seen s.window k ≡ None

-- A keep-alive may have one byte, which is before the next one and needn't be what was sent there (RFC 1122 4.2.3.6).
abbrev pub is_probe : (at size next : ℕ) → Bool
is_probe at size next = (size == 1) && (at + 1 == next)

abbrev pub unless_probe : (at size next : ℕ) → ℕ → ℕ
unless_probe at size next n = if is_probe at size next then 0 else n

-- how many bytes of a segment differ from these; none of a keep-alive does
abbrev pub differing : (ℕ → Option ℕ) → ℕ → List ℕ → ℕ → ℕ
differing first at bytes next = unless_probe at (length bytes) next (conflicts first at bytes)

-- how many bytes of a segment differ from those that were handed out after the last hole, as far as these are kept, and from those ahead
abbrev pub conflicts_since : List ℕ → Stream → ℕ → List ℕ → ℕ
conflicts_since since s at bytes =
    unless_probe at (length bytes) (next_of s.window) (conflicts (kept s.resumed since) at bytes + conflicts (held (next_of s.window) (seen s.window)) at bytes)

abbrev pub conflicts_with : List ℕ → Stream → ℕ → List ℕ → ℕ
conflicts_with out s at bytes = conflicts_since (since_hole out s) s at bytes

-- A segment was taken, and makes these bytes ready. There are none after a final gap, and one is final past 15 MiB.
pub record Advances (at : ℕ) (bytes : List ℕ) (s : Stream) (more : List ℕ) (s' : Stream) : Type 0 where
  pub base : s'.base ≡ s.base
  pub resumed : s'.resumed ≡ s.resumed
  pub conflicts : s'.conflicts ≡ s.conflicts
  pub lost : s'.is_lost ≡ true → (next_of s.window + 15728640 < at + length bytes) × (more ≡ [])
  pub near : s'.is_lost ≡ false → IsNear at (length bytes) (next_of s.window)
  pub taken : (segs : List Segment) (out : List ℕ) → IsStreamOf segs out s → IsStreamOf (segs ++ record { place = at; bytes = bytes } ∷ []) (out ++ more) s'

pub record StreamTakes (at : ℕ) (bytes : List ℕ) (s : Stream) (more : List ℕ) (s' : Stream) : Type 0 where
  pub base : s'.base ≡ s.base
  pub resumed : s'.resumed ≡ s.resumed
  pub none : s.is_lost ≡ true → more ≡ []
  pub final : s.is_lost ≡ true → s'.is_lost ≡ true
  pub lost : s.is_lost ≡ false → s'.is_lost ≡ true → (next_of s.window + 15728640 < at + length bytes) × (more ≡ [])
  pub near : s'.is_lost ≡ false → IsNear at (length bytes) (next_of s.window)
  pub counted : (segs : List Segment) (out : List ℕ) → IsStreamOf segs out s → s'.conflicts ≡ min (2 ^ 64 - 1) (s.conflicts + conflicts_with out s at bytes)
  pub taken : (segs : List Segment) (out : List ℕ) → IsStreamOf segs out s → IsStreamOf (segs ++ record { place = at; bytes = bytes } ∷ []) (out ++ more) s'

-- So many places were passed, and what is ready then was appended. Whatever their bytes are, it is as if a segment had brought them.
-- But later segments are only compared with bytes after these places.
pub record StreamPasses (count : ℕ) (s : Stream) (given : List ℕ) (s' : Stream) (given' : List ℕ) : Type 0 where
  pub more : List ℕ
  pub is : given' ≡ given ++ more
  pub base : s'.base ≡ s.base
  pub resumed : s'.resumed ≡ next_of s.window + count
  pub conflicts : s'.conflicts ≡ s.conflicts
  pub not_lost : s'.is_lost ≡ false
  pub taken : (segs : List Segment) (out fill : List ℕ) → length fill ≡ count → IsStreamOf segs out s
      → IsStreamOf (segs ++ record { place = next_of s.window; bytes = fill } ∷ []) (out ++ (fill ++ more)) s'
