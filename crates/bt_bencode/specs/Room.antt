-- Fitting by how deep a part may still nest. (For the contracts of functions that are not public.)
use Rattle.std.specs.Prelude.{ℕ, zero, suc, ◌≤◌, length, FitsSigned, ⊤}
use Rattle.std.specs.Int.{w64}
use Rattle.bt_bencode.specs.Trees.{Tree, integer, string, list, dictionary, Trees, no_trees, tree, Pairs, no_pairs, pair}
use Rattle.bt_bencode.specs.Bencoding.{longest_string}

-- in range, and lists and dictionaries nest at most `room` deep
abbrev mutual
  pub FitsIn : ℕ → Tree → Type 0
  FitsIn room (integer z) = FitsSigned w64 z
  FitsIn room (string s) = length s ≤ longest_string
  FitsIn zero (list ts) = ⊥
  FitsIn (suc room) (list ts) = AllFitIn room ts
  FitsIn zero (dictionary ps) = ⊥
  FitsIn (suc room) (dictionary ps) = PairsFitIn room ps

  pub AllFitIn : ℕ → Trees → Type 0
  AllFitIn room no_trees = ⊤
  AllFitIn room (tree t ts) = FitsIn room t × AllFitIn room ts

  pub PairsFitIn : ℕ → Pairs → Type 0
  PairsFitIn room no_pairs = ⊤
  PairsFitIn room (pair k t ps) = (length k ≤ longest_string) × FitsIn room t × PairsFitIn room ps
