-- The file that is served: a .torrent, or the info dictionary of one (BEP 3, "metainfo files").
use Rattle.std.specs.Prelude.{◌≡◌, ◌==◌, ℕ, ◌<◌, ◌≤◌, ◌/◌, ◌%◌, ◌^◌, ◌&&◌, nat_lt, if◌then◌else◌, ℤ, List, length, Option, Some, None, codes}
use Rattle.std.specs.Prelude.{FitsSigned, option_and_then, ⊤}
use Rattle.std.specs.Borrow.{Bor}
use Rattle.std.specs.Global.{Vec}
use Rattle.std.specs.Int.{w64}
use Rattle.bt_bencode.specs.Trees.{Tree, integer, string, list, dictionary, Trees, no_trees, tree, Pairs, no_pairs, pair, nesting}
use Rattle.bt_bencode.specs.Bencoding.{ben, deepest_nesting}
use Rattle.bt_bencode.specs.Keys.{value_at}
use Rattle.bt_bencode.specs.LookUps.{dictionary_of, integer_of, string_of}

-- A file's integers are from -2^63 to 2^63 - 1. Its strings and keys may be longer than those of a message: each has fewer
-- than 2^63 bytes, as the file has.
abbrev mutual
  pub InFile : Tree → Type 0
  InFile (integer z) = FitsSigned w64 z
  InFile (string s) = length s < 2 ^ 63
  InFile (list ts) = AllInFile ts
  InFile (dictionary ps) = PairsInFile ps

  pub AllInFile : Trees → Type 0
  AllInFile no_trees = ⊤
  AllInFile (tree t ts) = InFile t × AllInFile ts

  pub PairsInFile : Pairs → Type 0
  PairsInFile no_pairs = ⊤
  PairsInFile (pair k t ps) = (length k < 2 ^ 63) × InFile t × PairsInFile ps

-- all of the bytes are the dictionary's spelling, as a file may have it: lists and dictionaries nest at most 32 deep (BEP 3, "bencoding")
pub record IsFileOf (ps : Pairs) (bytes : List ℕ) : Type 0 where
  pub in_file : PairsInFile ps
  pub nested : nesting (dictionary ps) ≤ deepest_nesting
  pub spelled : bytes ≡ ben (dictionary ps)

-- By the dictionary under `info` and the number under `piece length`: the spelling of the first, or else, where there is the
-- second, the file itself. Nothing is found where there is neither.
abbrev pub IsFoundBy : List ℕ → Option Pairs → Option ℤ → Option (List ℕ) → Type 0
IsFoundBy file (Some inner) number (Some info) = IsFileOf inner info
IsFoundBy file (Some inner) number None = ⊥
IsFoundBy file None (Some n) (Some info) = info ≡ file
IsFoundBy file None (Some n) None = ⊥
IsFoundBy file None None (Some info) = ⊥
IsFoundBy file None None None = ⊤

abbrev pub IsFoundIn : List ℕ → Pairs → Option (List ℕ) → Type 0
IsFoundIn file pairs found =
    IsFoundBy file (option_and_then dictionary_of (value_at (codes "info") pairs)) (option_and_then integer_of (value_at (codes "piece length") pairs)) found

-- all of the file spells a dictionary, and these bytes are its info dictionary
pub record IsInfo (file info : List ℕ) : Type 0 where
  pub pairs : Pairs
  pub whole : IsFileOf pairs file
  pub found : IsFoundIn file pairs (Some info)

-- what is answered of a file: its info dictionary, or nothing where it has none
abbrev pub IsInfoIn : List ℕ → Option (Bor (List ℕ)) → Type 0
IsInfoIn file (Some info) = IsInfo file info.now
IsInfoIn file None = (info : List ℕ) → IsInfo file info → ⊥

abbrev pub IsInfoKept : List ℕ → Option (Vec ℕ) → Type 0
IsInfoKept file (Some info) = IsInfo file info.items
IsInfoKept file None = (info : List ℕ) → IsInfo file info → ⊥

-- ---- pieces

-- The pieces that have these SHA-1s, of 20 bytes each (BEP 3, "info dictionary"). The wire names at most 2^32 - 1 pieces.
abbrev pub pieces_in : List ℕ → Option ℕ
pieces_in hashes = if (length hashes % 20 == 0) && nat_lt (length hashes / 20) (2 ^ 32) then Some (length hashes / 20) else None

-- all of the bytes spell a dictionary, whose string `pieces` has SHA-1s for this many
pub record IsCounted (info : List ℕ) (count : ℕ) : Type 0 where
  pub pairs : Pairs
  pub whole : IsFileOf pairs info
  pub hashes : option_and_then pieces_in (option_and_then string_of (value_at (codes "pieces") pairs)) ≡ Some count

abbrev pub IsPieceCount : List ℕ → Option ℕ → Type 0
IsPieceCount info (Some count) = IsCounted info count
IsPieceCount info None = (count : ℕ) → IsCounted info count → ⊥
