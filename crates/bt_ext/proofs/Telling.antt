-- What the pairs of `m` tell, step by step.
use Rattle.std.proofs.Common.{◌≡◌, ℕ, ℤ, List, [], ◌∷◌, ◌++◌, Option, Some, if◌then◌else◌, Bor, refl, sym, append_assoc}
use Rattle.std.specs.List.{list_any}
use Rattle.std.specs.Str.{bytes_eq}
use Rattle.bt_bencode.specs.Trees.{Pairs, no_pairs, pair}
use Rattle.bt_bencode.specs.LookUps.{GivesPair}
use Rattle.bt_ext.specs.Fields.{id_value, byte_of}
use Rattle.bt_ext.specs.Tables.{Entries, told, told_by}
use Rattle.bt_ext.specs.Holding.{AddsName}

-- names with the same members
told_by-same : (a b : List (List ℕ)) (ps : Pairs) → ((n : List ℕ) → list_any (bytes_eq n) a ≡ list_any (bytes_eq n) b) → told_by a ps ≡ told_by b ps
told_by-same a b no_pairs h = refl
told_by-same a b (pair k t ps) h = rw (h k, told_by-same (k ∷ a) (k ∷ b) ps (λ n. rw (h n) refl)) refl

-- the entry of one pair
abbrev pub told_at : List (List ℕ) → List ℕ → Option ℕ → Entries
told_at earlier name id = if list_any (bytes_eq name) earlier then [] else told name id

pub told_step : (front done : Entries) (earlier later : List (List ℕ)) (ps left : Pairs) (x : Bor (List ℕ) × Option ℤ)
    → GivesPair ps (Some x) left → AddsName x.0.now earlier later → done ≡ front ++ told_at earlier x.0.now (byte_of x.1)
    → front ++ told_by earlier ps ≡ done ++ told_by later left
told_step front done earlier later no_pairs left x g adds d = absurd g
told_step front done earlier later (pair k t ps) left x g adds d =
    let s = told_by-same later (x.0.now ∷ earlier) left adds in
    rw (d, s, g.0, g.1, g.2) (sym (append_assoc front (told_at earlier k (id_value t)) (told_by (k ∷ earlier) ps)))
