-- The bytes of a client's name (BEP 10, `v`), and which of two names counts.
use Rattle.std.specs.Prelude.{ℕ, List, [], ◌∷◌, take}
use Rattle.bt_intro.specs.declared.name.Name.{Name}

-- the second list, unless it is empty
abbrev pub or_before : List ℕ → List ℕ → List ℕ
or_before old [] = old
or_before old (b ∷ bs) = b ∷ bs

-- ---- for private contracts

-- the bytes that a name has
abbrev pub name_bytes : Name → List ℕ
name_bytes n = take n.length n.bytes
