-- Lists that grow, if they are known: what a device was told, in order.
use Rattle.std.specs.Prelude.{◌≡◌, Bool, List, [], ◌∷◌, ◌++◌, Option, Some, None, ⊤}
use Rattle.std.specs.List.{list_all}

-- the list is known, and one more comes after it; or nothing is known
abbrev pub IsAdded : {A : Type 0} → Option (List A) → Option (List A) → A → Type 0
IsAdded None new x = ⊤
IsAdded (Some xs) None x = ⊥
IsAdded (Some xs) (Some ys) x = ys ≡ xs ++ x ∷ []

-- the list is known, and some come after it, each of which is so, if and only if `all`; or nothing is known
abbrev pub AreAdded : {A : Type 0} → (A → Bool) → Option (List A) → Option (List A) → (all : Bool) → Type 0
AreAdded is_so None new all = ⊤
AreAdded is_so (Some xs) None all = ⊥
AreAdded {A} is_so (Some xs) (Some ys) all = (added : List A) × (ys ≡ xs ++ added) × (list_all is_so added ≡ all)
