-- What a change of a table holds before it is made. That it is a change of one table to another is what the contracts say of it.
use Rattle.std.specs.Prelude.{◌≡◌, ℕ, zero, suc, ◌+◌, ◌≤◌, List, [], ◌∷◌, length, min, vec_len, vec_capacity, ⊤}
use Rattle.bt_ext.specs.Tables.{Entries, IsTable, entered_all}
use Rattle.bt_ext.specs.declared.table.Change.{Change}
use Rattle.bt_ext.specs.declared.table.Change.TheVariants.{Renumber, Enter, Replace}
use Rattle.bt_ext.specs.declared.table.Update.{Update}

-- with another id at a place, if there is one
abbrev pub with_id : ℕ → ℕ → Entries → Entries
with_id i id [] = []
with_id zero id (e ∷ es) = (e.0, id) ∷ es
with_id (suc i) id (e ∷ es) = e ∷ with_id i id es

-- with these ids at these places, one after another
abbrev pub renumbered : List (ℕ × ℕ) → Entries → Entries
renumbered [] es = es
renumbered (p ∷ ps) es = renumbered ps (with_id p.0 p.1 es)

-- ids for names that are there; or pairs that lead to the new entries, with an empty vector that has room for these; or the new
-- table
abbrev pub IsChange : {A : Type 0} → Entries → Entries → Change A → Type 0
IsChange es next (Renumber places) = renumbered places.items es ≡ next
IsChange es next (Enter copies room) =
    (entered_all copies.items es ≡ next) × (room.items ≡ []) × (min (length es + vec_len copies) 256 ≤ vec_capacity room)
IsChange es next (Replace table) = table ≡ next

-- After few pairs, a table that had so many entries, and room for so many, has room for at most 16 more than it had: its own
-- room if the names stay, or new room for what may be there then, and for no more.
abbrev pub FollowsNames : {A : Type 0} → ℕ → ℕ → Change A → Type 0
FollowsNames len capacity (Renumber places) = capacity ≤ len + 16
FollowsNames len capacity (Enter copies room) = (vec_capacity room ≡ min (len + vec_len copies) 256) × (vec_len copies ≤ 16)
FollowsNames len capacity (Replace table) = ⊤

-- it changes a table with the first entries to one with the second
pub record IsUpdate {A : Type 0} (es next : Entries) (u : Update A) : Type 0 where
  pub table : IsTable next
  pub change : IsChange es next u.change
