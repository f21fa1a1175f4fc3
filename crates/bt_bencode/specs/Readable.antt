-- What the readers of a checked spelling meet. (For the contracts of functions that are not public.)
use Rattle.std.specs.Prelude.{◌≡◌, ℕ, ℤ, ◌≤◌, ◌^◌, List, ◌∷◌, ◌++◌, length, FitsSigned, Option, Some, None, Result, Ok, Err}
use Rattle.std.specs.Borrow.{Bor}
use Rattle.std.specs.Int.{w64}
use Rattle.std.specs.Fmt.{decimal, signed_decimal}
use Rattle.bt_bencode.specs.Trees.{Tree, Trees, Pairs}
use Rattle.bt_bencode.specs.Bencoding.{ben, ben_all, ben_pairs, ben_string, longest_string, InRange, AllInRange, PairsInRange}
use Rattle.bt_bencode.specs.Scanner.{NumberThen}
use Rattle.bt_bencode.specs.Views.{pairs_of}
use Rattle.bt_bencode.specs.declared.pairs.Left.{Left}
use Rattle.bt_bencode.specs.declared.pairs.Left.TheVariants as left

-- the bytes begin with a value
abbrev pub HasValue : List ℕ → Type 0
HasValue bytes = (t : Tree) × (rest : List ℕ) × InRange t × (bytes ≡ ben t ++ rest)

-- with the further values of a list, and its end
abbrev pub HasItems : List ℕ → Type 0
HasItems bytes = (ts : Trees) × (rest : List ℕ) × AllInRange ts × (bytes ≡ ben_all ts ++ 101 ∷ rest)

-- with the further pairs of a dictionary, and its end
abbrev pub HasPairs : List ℕ → Type 0
HasPairs bytes = (ps : Pairs) × (rest : List ℕ) × PairsInRange ps × (bytes ≡ ben_pairs ps ++ 101 ∷ rest)

-- the bytes begin with a byte string
abbrev pub HasString : List ℕ → Type 0
HasString bytes = (s : List ℕ) × (rest : List ℕ) × (length s ≤ longest_string) × (bytes ≡ ben_string s ++ rest)

-- the number is this one, and this follows it
abbrev pub IsNumber : ℕ → List ℕ → ℕ → List ℕ → Type 0
IsNumber m rest n r = (n ≡ m) × (r ≡ rest)

-- digits that go on with n, up to the byte `stop`
abbrev pub NumberGoesOn : ℕ → ℕ → List ℕ → Type 0
NumberGoesOn stop n bytes = (m : ℕ) × (rest : List ℕ) × NumberThen (2 ^ 63) stop (IsNumber m rest) n bytes

-- digits up to the byte `stop`
abbrev pub DigitsGo : ℕ → List ℕ → Type 0
DigitsGo stop bytes = (m : ℕ) × (rest : List ℕ) × (m ≤ 2 ^ 63) × (bytes ≡ decimal m ++ stop ∷ rest)

-- an integer, after its `i`
abbrev pub HasInteger : List ℕ → Type 0
HasInteger bytes = (z : ℤ) × (rest : List ℕ) × FitsSigned w64 z × (bytes ≡ signed_decimal z ++ 101 ∷ rest)

-- A walk over a part found the offset, or reached its end without one.
abbrev pub Walks : Result (Bor (List ℕ)) ℕ → List ℕ → Option ℕ → Type 0
Walks (Ok rest) more offset = (offset ≡ None) × (rest.now ≡ more)
Walks (Err n) more offset = offset ≡ Some n

-- the bytes found begin with the value's spelling, if there is a value
abbrev pub FindsValue : Option (Bor (List ℕ)) → Option Tree → Type 0
FindsValue None o = o ≡ None
FindsValue (Some bytes) o = (t : Tree) × (rest : List ℕ) × (o ≡ Some t) × InRange t × (bytes.now ≡ ben t ++ rest)

-- the bytes begin with the pairs and the end of their dictionary, and whatever may follow
pub record SpellsPairs (ps : Pairs) (bytes : List ℕ) : Type 0 where
  pub range : PairsInRange ps
  pub spelled : (more : List ℕ) × (bytes ≡ ben_pairs ps ++ 101 ∷ more)

-- the pairs are those that are left, encoded or as values
abbrev pub LeaveAs : Pairs → Left → Type 0
LeaveAs ps (left.Encoded bytes) = SpellsPairs ps bytes.now
LeaveAs ps (left.Values values) = ps ≡ pairs_of values.now

abbrev pub AreLeft : Left → Type 0
AreLeft l = (ps : Pairs) × LeaveAs ps l
