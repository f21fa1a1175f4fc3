-- What the pass that validates bytes and compares keys has passed. (For the contracts of functions that are not public.)
use Rattle.std.specs.Prelude.{◌≡◌, ◌≢◌, ◌⊎◌, ℕ, ℤ, ◌<◌, ◌+◌, List, ◌∷◌, ◌++◌, length, FitsSigned, Option, Some, None}
use Rattle.std.specs.Int.{w64}
use Rattle.std.specs.Fmt.{signed_decimal}
use Rattle.bt_bencode.specs.Trees.{Tree, Trees, Pairs}
use Rattle.bt_bencode.specs.Bencoding.{ben, ben_all, ben_pairs}
use Rattle.bt_bencode.specs.Keys.{IsSorted, AllAreSorted, PairsAreSorted, value_at, unsorted, unsorted_all, unsorted_pairs}
use Rattle.bt_bencode.specs.Readable.{FindsValue}
use Rattle.bt_bencode.specs.Scanner.{Goes}
use Rattle.bt_bencode.specs.declared.scan.Container.{Container}
use Rattle.bt_bencode.specs.declared.scan.Expect.TheVariants as expect
use Rattle.bt_bencode.specs.Room.{FitsIn, AllFitIn, PairsFitIn}
use Rattle.bt_bencode.specs.declared.noted.Noted.{Noted}

-- the bytes are an integer after its `i`, and `rest`
abbrev pub PassesInteger : List ℕ → List ℕ → Type 0
PassesInteger bytes rest = (z : ℤ) × FitsSigned w64 z × (bytes ≡ signed_decimal z ++ 101 ∷ rest)

-- they are a value that fits in the room and whose keys rise, and `rest`
abbrev pub PassesValue : ℕ → List ℕ → List ℕ → Type 0
PassesValue room bytes rest = (t : Tree) × FitsIn room t × IsSorted t × (bytes ≡ ben t ++ rest)

-- they are the further values of a list, its end, and `rest`
abbrev pub PassesItems : ℕ → List ℕ → List ℕ → Type 0
PassesItems room bytes rest = (ts : Trees) × AllFitIn room ts × AllAreSorted ts × (bytes ≡ ben_all ts ++ 101 ∷ rest)

-- they are the further pairs of a dictionary, which follow a last key, its end, and `rest`
abbrev pub PassesPairs : ℕ → Option (List ℕ) → List ℕ → List ℕ → Type 0
PassesPairs room last bytes rest = (ps : Pairs) × PairsFitIn room ps × PairsAreSorted last ps × (bytes ≡ ben_pairs ps ++ 101 ∷ rest)

-- the offset of the first key out of order, from which `left` of the bytes are left
abbrev pub StopsAt : Option ℕ → List ℕ → ℕ → Type 0
StopsAt offset bytes left = (n : ℕ) × (offset ≡ Some n) × (n + left ≡ length bytes) × (0 < left)

-- whichever value the bytes begin with, its first key out of order is there; so there is none if nothing is left
abbrev pub StopsValue : ℕ → List ℕ → ℕ → Type 0
StopsValue room bytes left = (t : Tree) (more : List ℕ) → FitsIn room t → bytes ≡ ben t ++ more → StopsAt (unsorted t) bytes left

-- the first key out of order in the further values of a list is there, likewise
abbrev pub StopsItems : ℕ → List ℕ → ℕ → Type 0
StopsItems room bytes left = (ts : Trees) (more : List ℕ) → AllFitIn room ts → bytes ≡ ben_all ts ++ 101 ∷ more → StopsAt (unsorted_all ts) bytes left

-- and in the further pairs of a dictionary, which follow a last key
abbrev pub StopsPairs : ℕ → Option (List ℕ) → List ℕ → ℕ → Type 0
StopsPairs room last bytes left =
    (ps : Pairs) (more : List ℕ) → PairsFitIn room ps → bytes ≡ ben_pairs ps ++ 101 ∷ more → StopsAt (unsorted_pairs last ps) bytes left

-- Where the pass halted, `left` of the bytes are left, and `stack'` is open: just what may follow there is what may follow now.
abbrev pub Halts : List Container → List ℕ → ℕ → List Container → Type 0
Halts stack bytes left stack' =
    (done : List ℕ) × (rest : List ℕ) × (bytes ≡ done ++ rest) × (length rest ≡ left) × Goes expect.Item stack done expect.Item stack'

-- it halted inside the value that the bytes begin with, or nothing of it was passed
abbrev pub HaltsValue : List Container → ℕ → List ℕ → ℕ → List Container → Type 0
HaltsValue stack before bytes left stack' = ((left ≡ before) × (stack' ≡ stack)) ⊎ ((first : ℕ) × (done : List ℕ) × (rest : List ℕ) × (first ≢ 101)
    × (bytes ≡ (first ∷ done) ++ rest) × (length rest ≡ left) × Goes expect.Value stack (first ∷ done) expect.Item stack')

-- they are the pairs of an outermost dictionary, its end, and what is noted as following it, and so are the values of three keys
pub record PassesNoted (one two three bytes : List ℕ) (x : Noted) : Type 0 where
  pub pairs : Pairs
  pub fit : PairsFitIn 31 pairs
  pub sorted : PairsAreSorted None pairs
  pub spelled : bytes ≡ ben_pairs pairs ++ 101 ∷ x.rest.now
  pub first : FindsValue x.first (value_at one pairs)
  pub second : FindsValue x.second (value_at two pairs)
  pub third : FindsValue x.third (value_at three pairs)
