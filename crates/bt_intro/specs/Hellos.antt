-- Where a handshake starts in the front of what one side sends (BEP 3, "peer protocol").
use Rattle.std.specs.Prelude.{◌≡◌, ◌+◌, ◌≤◌, ◌<◌, ℕ, List, ◌++◌, length, Option, Some, None}
use Rattle.bt_wire.specs.Handshakes.{protocol}

-- What a handshake begins with stands at this place.
pub record IsHelloAt (front : List ℕ) (k : ℕ) : Type 0 where
  pub before : List ℕ
  pub after : List ℕ
  pub parts : front ≡ before ++ (protocol ++ after)
  pub place : length before ≡ k

-- the key exchange of message stream encryption, which may come before, has at most 2,048 bytes
abbrev pub exchange : ℕ
exchange = 2048

-- a handshake starts at this place, and at none before it
pub record IsFirstHello (front : List ℕ) (k : ℕ) : Type 0 where
  pub near : k ≤ exchange
  pub here : IsHelloAt front k
  pub first : (j : ℕ) → j < k → IsHelloAt front j → ⊥

-- no handshake starts that near
abbrev pub HasNoHello : List ℕ → Type 0
HasNoHello front = (j : ℕ) → j ≤ exchange → IsHelloAt front j → ⊥

-- where the handshake starts, if one does
abbrev pub IsStartOf : List ℕ → Option ℕ → Type 0
IsStartOf front None = HasNoHello front
IsStartOf front (Some k) = IsFirstHello front k

-- it is too long for a key exchange, and has no handshake
abbrev pub IsOfStranger : List ℕ → Type 0
IsOfStranger front = HasNoHello front × (exchange + 20 ≤ length front)

-- ---- for private contracts

-- the first place from `low` on, as far as one may be
abbrev pub IsFirstFrom : List ℕ → ℕ → Option ℕ → Type 0
IsFirstFrom front low None = (j : ℕ) → low ≤ j → j ≤ exchange → IsHelloAt front j → ⊥
IsFirstFrom front low (Some k) = (low ≤ k) × (k ≤ exchange) × IsHelloAt front k × ((j : ℕ) → low ≤ j → j < k → IsHelloAt front j → ⊥)

-- these bytes begin as a handshake does
pub record BeginsAsHello (bytes : List ℕ) : Type 0 where
  pub after : List ℕ
  pub parts : bytes ≡ protocol ++ after
