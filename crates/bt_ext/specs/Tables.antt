-- The names and ids that a peer told (BEP 10, "m"): a finite map, and what an extended handshake makes of it.
use Rattle.std.specs.Prelude.{◌≡◌, ℕ, ◌<◌, ◌≤◌, ◌==◌, List, [], ◌∷◌, ◌++◌, length, Option, Some, None, is_some, nat_lt, if◌then◌else◌, ◌||◌, codes, ⊤}
use Rattle.std.specs.List.{list_any}
use Rattle.std.specs.Str.{bytes_eq}
use Rattle.bt_bencode.specs.Trees.{Tree, integer, string, list, dictionary, Pairs, no_pairs, pair}
use Rattle.bt_bencode.specs.Keys.{lookup_of}
use Rattle.bt_ext.specs.Fields.{id_value}
use Rattle.bt_ext.specs.Ids.{metadata_name, donthave_name, registered}
use Rattle.bt_ext.specs.declared.ids.Registered.{Registered}

-- the ids of names, each name once
abbrev pub Entries : Type 0
Entries = List (List ℕ × ℕ)

-- the id that a name has
abbrev pub id_of_name : List ℕ → Entries → Option ℕ
id_of_name name [] = None
id_of_name name (e ∷ es) = if bytes_eq e.0 name then Some e.1 else id_of_name name es

-- the ids under which the peer that told them wants extensions
unfoldable pub told_ids : Entries → Registered
told_ids es = registered (id_of_name metadata_name es) (id_of_name donthave_name es)

-- each name stands once and has at most 255 bytes, and no id is 0
abbrev pub AreEntries : Entries → Type 0
AreEntries [] = ⊤
AreEntries (e ∷ es) = (length e.0 ≤ 255) × (0 < e.1) × (id_of_name e.0 es ≡ None) × AreEntries es

-- a table: at most 256 names with their ids
pub record IsTable (es : Entries) : Type 0 where
  pub entries : AreEntries es
  pub few : length es ≤ 256

-- without the name
abbrev pub removed : List ℕ → Entries → Entries
removed name [] = []
removed name (e ∷ es) = if bytes_eq e.0 name then es else e ∷ removed name es

-- with another id for the name
abbrev pub replaced : List ℕ → ℕ → Entries → Entries
replaced name id [] = []
replaced name id (e ∷ es) = if bytes_eq e.0 name then (e.0, id) ∷ es else e ∷ replaced name id es

-- with the new name, if there is room for it
abbrev pub added : List ℕ → ℕ → Entries → Entries
added name id es = if nat_lt (length es) 256 then es ++ (name, id) ∷ [] else es

-- Nothing for a name of more than 255 bytes. Else the id 0 removes the name, and another replaces the name's id or adds
-- the name.
abbrev pub entered : List ℕ → ℕ → Entries → Entries
entered name id es =
    if nat_lt 255 (length name) then es else
    (if id == 0 then removed name es else
    (if is_some (id_of_name name es) then replaced name id es else added name id es))

-- one after another
abbrev pub entered_all : Entries → Entries → Entries
entered_all [] es = es
entered_all (x ∷ xs) es = entered_all xs (entered x.0 x.1 es)

-- what a pair of `m` tells, if its value is an id of one byte
abbrev pub told : List ℕ → Option ℕ → Entries
told name None = []
told name (Some id) = (name, id) ∷ []

-- what the pairs tell after pairs with these names: of pairs with one name the first counts
abbrev pub told_by : List (List ℕ) → Pairs → Entries
told_by earlier no_pairs = []
told_by earlier (pair k t ps) = (if list_any (bytes_eq k) earlier then [] else told k (id_value t)) ++ told_by (k ∷ earlier) ps

-- what `m` tells, if it is a dictionary
abbrev pub told_in : Option Tree → Entries
told_in None = []
told_in (Some (integer z)) = []
told_in (Some (string s)) = []
told_in (Some (list ts)) = []
told_in (Some (dictionary ps)) = told_by [] ps

-- what an extended handshake's dictionary tells
abbrev pub told_of : Tree → Entries
told_of t = told_in (lookup_of (codes "m") t)

-- what it makes of a table
abbrev pub applied : Tree → Entries → Entries
applied t es = entered_all (told_of t) es

-- what entering an id makes of its name's: a name that is too long or finds no room keeps what it has
abbrev pub id_after : List ℕ → ℕ → Entries → Option ℕ
id_after name id es =
    if nat_lt 255 (length name) then id_of_name name es else
    (if id == 0 then None else
    (if is_some (id_of_name name es) || nat_lt (length es) 256 then Some id else None))

-- the entries before a name's first one
abbrev pub before : List ℕ → Entries → Entries
before name [] = []
before name (x ∷ xs) = if bytes_eq x.0 name then [] else x ∷ before name xs
