-- The ids of uTP's connections (BEP 29): the two ends of a connection use an id and the next one.
use Rattle.std.specs.Prelude.{ℕ, ◌+◌, ◌%◌, ◌==◌, ◌||◌, nat_lt, Bool, List, count_by}

-- the same id, or one is the next of the other, of 16 bits
abbrev pub is_near : ℕ → ℕ → Bool
is_near a b = a == b || ((a + 1) % 65536 == b || (b + 1) % 65536 == a)

-- how many of them have another one near
unfoldable pub count_near : List ℕ → ℕ
count_near ids = count_by (λ k. nat_lt 1 (count_by (is_near k) ids)) ids
