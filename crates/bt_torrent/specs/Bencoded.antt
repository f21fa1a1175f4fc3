-- What the pass over a file's bencoding has passed. (For the contracts of functions that are not public.)
use Rattle.std.specs.Prelude.{◌≡◌, ℕ, ◌<◌, ◌≤◌, ◌^◌, List, ◌∷◌, ◌++◌, length, Option, Some, None}
use Rattle.std.specs.Borrow.{Bor}
use Rattle.bt_bencode.specs.Trees.{Tree, Trees, Pairs, nesting, trees_nesting, pairs_nesting}
use Rattle.bt_bencode.specs.Bencoding.{ben, ben_all, ben_pairs, ben_string}
use Rattle.bt_torrent.specs.Files.{InFile, AllInFile, PairsInFile, IsFileOf}

-- the bytes are a byte string, and `rest`
abbrev pub PassesText : List ℕ → List ℕ → Type 0
PassesText bytes rest = (s : List ℕ) × (length s < 2 ^ 63) × (bytes ≡ ben_string s ++ rest)

-- they are a value, in which lists and dictionaries nest at most `room` deep, and `rest`
abbrev pub PassesValue : ℕ → List ℕ → List ℕ → Type 0
PassesValue room bytes rest = (t : Tree) × InFile t × (nesting t ≤ room) × (bytes ≡ ben t ++ rest)

-- they are the further values of a list, its end, and `rest`
abbrev pub PassesItems : ℕ → List ℕ → List ℕ → Type 0
PassesItems room bytes rest = (ts : Trees) × AllInFile ts × (trees_nesting ts ≤ room) × (bytes ≡ ben_all ts ++ 101 ∷ rest)

-- they are the pairs, the end of their dictionary, and `rest`
abbrev pub ArePairs : ℕ → List ℕ → Pairs → List ℕ → Type 0
ArePairs room bytes ps rest = PairsInFile ps × (pairs_nesting ps ≤ room) × (bytes ≡ ben_pairs ps ++ 101 ∷ rest)

-- they are the further pairs of a dictionary, its end, and `rest`
abbrev pub PassesPairs : ℕ → List ℕ → List ℕ → Type 0
PassesPairs room bytes rest = (ps : Pairs) × ArePairs room bytes ps rest

-- the bytes found are the value's spelling, if there is a value
abbrev pub IsSpelled : Option (Bor (List ℕ)) → Option Tree → Type 0
IsSpelled None o = o ≡ None
IsSpelled (Some bytes) o = (t : Tree) × (o ≡ Some t) × InFile t × (nesting t ≤ 31) × (bytes.now ≡ ben t)

-- the bytes found spell the dictionary, if there is one
abbrev pub IsDictionary : Option (Bor (List ℕ)) → Option Pairs → Type 0
IsDictionary None o = o ≡ None
IsDictionary (Some bytes) o = (ps : Pairs) × (o ≡ Some ps) × IsFileOf ps bytes.now
