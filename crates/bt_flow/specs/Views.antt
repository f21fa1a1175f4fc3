-- A window as it is seen: the next place to hand out, and the bytes that have come from there on.
use Rattle.std.specs.Prelude.{◌≡◌, ℕ, ◌+◌, ◌<◌, ◌≤◌, List, [], ◌∷◌, ◌++◌, length, Option, Some, None}
use Rattle.std.specs.Borrow.{Bor}
use Rattle.bt_tcp.specs.declared.rings.Put.{Put}
use Rattle.bt_tcp.specs.declared.rings.Put.TheVariants.{Taken, Full}
use Rattle.bt_tcp.specs.Segments.{Segment, IsStream}
use Rattle.bt_tcp.specs.Windows.{IsTaken, TakesOneMore}

-- A segment with a byte ends at most 15 MiB past the next place, unless it has more bytes than that.
abbrev pub IsNear : ℕ → ℕ → ℕ → Type 0
IsNear at size next = 0 < size → size ≤ 15728640 → at + size ≤ next + 15728640

-- A window is full only if a segment ends more than 15 MiB past the next place, and always then, but for a segment with more bytes than that.
abbrev pub Places : ℕ → List ℕ → ℕ → (ℕ → Option ℕ) → Put → ℕ → (ℕ → Option ℕ) → Type 0
Places at bytes next ahead (Taken from len) next' ahead' =
    (from + len ≤ length bytes) × (next' ≡ next + len) × IsNear at (length bytes) next × TakesOneMore at bytes next ahead (Taken from len) next' ahead'
Places at bytes next ahead Full next' ahead' = (next + 15728640 < at + length bytes) × (next' ≡ next)

-- Bytes that were ahead were appended.
pub record HandsSome (next : ℕ) (ahead : ℕ → Option ℕ) (given : List ℕ) (next' : ℕ) (ahead' : ℕ → Option ℕ) (given' : List ℕ) : Type 0 where
  pub more : List ℕ
  pub is : given' ≡ given ++ more
  pub next_is : next' ≡ next + length more
  pub taken : (segs : List Segment) (base : ℕ) (out : List ℕ) → IsTaken segs base out next ahead → IsTaken segs base (out ++ more) next' ahead'

-- What is ready was appended, and nothing that is ready is kept back.
pub record HandsOut (next : ℕ) (ahead : ℕ → Option ℕ) (given : List ℕ) (next' : ℕ) (ahead' : ℕ → Option ℕ) (given' : List ℕ) : Type 0 where
  pub some : HandsSome next ahead given next' ahead' given'
  pub stream : (segs : List Segment) (base : ℕ) (out : List ℕ) → IsTaken segs base out next ahead → IsStream segs base (out ++ some.more)

-- One segment was taken, and makes these bytes ready.
pub record TakesIn (at : ℕ) (bytes : List ℕ) (next : ℕ) (ahead : ℕ → Option ℕ) (more : List ℕ) (next' : ℕ) (ahead' : ℕ → Option ℕ) : Type 0 where
  pub next_is : next' ≡ next + length more
  pub near : IsNear at (length bytes) next
  pub taken : (segs : List Segment) (base : ℕ) (out : List ℕ) → IsTaken segs base out next ahead
      → IsTaken (segs ++ record { place = at; bytes = bytes } ∷ []) base (out ++ more) next' ahead' × IsStream (segs ++ record { place = at; bytes = bytes } ∷ []) base (out ++ more)

-- Places were passed, and what is ready then was appended. Whatever their bytes are, it is as if a segment had brought them.
pub record PassesHole (count next : ℕ) (ahead : ℕ → Option ℕ) (given : List ℕ) (next' : ℕ) (ahead' : ℕ → Option ℕ) (given' : List ℕ) : Type 0 where
  pub more : List ℕ
  pub is : given' ≡ given ++ more
  pub taken : (fill : List ℕ) → length fill ≡ count → TakesIn next fill next ahead (fill ++ more) next' ahead'

-- The bytes that are ready are `fresh` and what was appended.
pub record AppendsAfter (fresh later later' : List ℕ) (IsMore : List ℕ → Type 0) : Type 0 where
  pub rest : List ℕ
  pub is : later' ≡ later ++ rest
  pub more : IsMore (fresh ++ rest)

-- It isn't taken only if it ends more than 15 MiB past the next place.
abbrev pub Takes : ℕ → List ℕ → ℕ → (ℕ → Option ℕ) → List ℕ → Option (Bor (List ℕ)) → ℕ → (ℕ → Option ℕ) → List ℕ → Type 0
Takes at bytes next ahead later (Some fresh) next' ahead' later' = AppendsAfter fresh.now later later' (λ more. TakesIn at bytes next ahead more next' ahead')
Takes at bytes next ahead later None next' ahead' later' = (next + 15728640 < at + length bytes) × (next' ≡ next) × (later' ≡ later)
