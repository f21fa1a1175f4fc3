-- What a window knows: the next place to hand out, and at each offset from there on the byte that has come.
-- However a window keeps its bytes, it is seen as a function from offsets.
use Rattle.std.specs.Prelude.{◌≡◌, ℕ, ◌+◌, ◌<◌, ◌≤◌, List, [], ◌∷◌, ◌++◌, length, take, drop, slice_get, Option, None}
use Rattle.bt_tcp.specs.declared.rings.Put.{Put}
use Rattle.bt_tcp.specs.declared.rings.Put.TheVariants.{Taken, Full}
use Rattle.bt_tcp.specs.Segments.{Segment, or_else, byte_in, byte_at, IsFront, IsStream}

-- The window has taken the segments, and has handed out these bytes from base on.
pub record IsTaken (segs : List Segment) (base : ℕ) (out : List ℕ) (next : ℕ) (ahead : ℕ → Option ℕ) : Type 0 where
  pub next_is : next ≡ base + length out
  pub front : IsFront segs base out
  pub rest : (k : ℕ) → byte_at segs (next + k) ≡ ahead k

-- One segment was taken, and its bytes `fresh` are handed out.
pub record IsPut (s : Segment) (next : ℕ) (ahead : ℕ → Option ℕ) (fresh : List ℕ) (next' : ℕ) (ahead' : ℕ → Option ℕ) : Type 0 where
  pub next_is : next' ≡ next + length fresh
  pub new : (k : ℕ) → k < length fresh → (ahead k ≡ None) × (byte_in s (next + k) ≡ slice_get fresh k)
  pub rest : (k : ℕ) → ahead' k ≡ or_else (ahead (length fresh + k)) (byte_in s (next' + k))

-- Bytes that were ahead are handed out.
pub record IsReady (next : ℕ) (ahead : ℕ → Option ℕ) (ready : List ℕ) (next' : ℕ) (ahead' : ℕ → Option ℕ) : Type 0 where
  pub next_is : next' ≡ next + length ready
  pub held : (k : ℕ) → k < length ready → ahead k ≡ slice_get ready k
  pub rest : (k : ℕ) → ahead' k ≡ ahead (length ready + k)

-- Places were passed whose bytes hadn't come.
pub record IsSkipped (count next : ℕ) (ahead : ℕ → Option ℕ) (next' : ℕ) (ahead' : ℕ → Option ℕ) : Type 0 where
  pub next_is : next' ≡ next + count
  pub none : (k : ℕ) → k < count → ahead k ≡ None
  pub rest : (k : ℕ) → ahead' k ≡ ahead (count + k)

-- What became of a segment: all bytes before `from` were handed out before. A window is full only if the segment ends past its capacity.
abbrev pub IsPutOf : ℕ → ℕ → List ℕ → ℕ → (ℕ → Option ℕ) → Put → ℕ → (ℕ → Option ℕ) → Type 0
IsPutOf capacity at bytes next ahead (Taken from len) next' ahead' =
    (from + len ≤ length bytes) × IsPut (record { place = at; bytes = bytes }) next ahead (take len (drop from bytes)) next' ahead'
IsPutOf capacity at bytes next ahead Full next' ahead' = (next + capacity < at + length bytes) × (next' ≡ next) × ((k : ℕ) → ahead' k ≡ ahead k)

-- Whatever the window had taken and handed out: now it has taken this segment too, and handed out the fresh bytes after those.
abbrev pub TakesOneMore : ℕ → List ℕ → ℕ → (ℕ → Option ℕ) → Put → ℕ → (ℕ → Option ℕ) → Type 0
TakesOneMore at bytes next ahead (Taken from len) next' ahead' =
    (segs : List Segment) (base : ℕ) (out : List ℕ) → IsTaken segs base out next ahead
    → IsTaken (segs ++ record { place = at; bytes = bytes } ∷ []) base (out ++ take len (drop from bytes)) next' ahead'
TakesOneMore at bytes next ahead Full next' ahead' = Unit {0}

-- Places were passed: whatever their bytes are, it is as if a segment had brought them, and they had been handed out.
abbrev pub TakesAny : ℕ → ℕ → (ℕ → Option ℕ) → ℕ → (ℕ → Option ℕ) → Type 0
TakesAny count next ahead next' ahead' =
    (segs : List Segment) (base : ℕ) (out fill : List ℕ) → length fill ≡ count → IsTaken segs base out next ahead
    → IsTaken (segs ++ record { place = next; bytes = fill } ∷ []) base (out ++ fill) next' ahead'

-- These bytes were handed out after those before.
abbrev pub HandsOutMore : ℕ → (ℕ → Option ℕ) → List ℕ → ℕ → (ℕ → Option ℕ) → Type 0
HandsOutMore next ahead more next' ahead' =
    (segs : List Segment) (base : ℕ) (out : List ℕ) → IsTaken segs base out next ahead → IsTaken segs base (out ++ more) next' ahead'

-- With these the stream is handed out up to the first place that no segment covers.
abbrev pub EndsStream : ℕ → (ℕ → Option ℕ) → List ℕ → Type 0
EndsStream next ahead more = (segs : List Segment) (base : ℕ) (out : List ℕ) → IsTaken segs base out next ahead → IsStream segs base (out ++ more)

-- The window is another one now, and has taken and handed out the same.
abbrev pub GoesOn : ℕ → (ℕ → Option ℕ) → ℕ → (ℕ → Option ℕ) → Type 0
GoesOn next ahead next' ahead' = (segs : List Segment) (base : ℕ) (out : List ℕ) → IsTaken segs base out next ahead → IsTaken segs base out next' ahead'
