-- What may follow the bytes that the scanner has read. `Then` says what may follow the part at hand.
-- (For the contracts of functions that are not public.)
use Rattle.std.specs.Prelude.{◌≡◌, ◌⊎◌, ℕ, zero, suc, ◌/◌, ◌%◌, ◌+◌, ◌-◌, ◌*◌, ◌<◌, ◌≤◌, ◌^◌, List, [], ◌∷◌, ◌++◌, length, take, drop, Option, Some, None, ⊤}
use Rattle.bt_bencode.specs.Trees.{Tree, Trees, Pairs}
use Rattle.bt_bencode.specs.Bencoding.{ben, ben_all, ben_pairs, longest_string, deepest_nesting, IsSpelling}
use Rattle.bt_bencode.specs.Room.{FitsIn, AllFitIn, PairsFitIn}
use Rattle.bt_bencode.specs.declared.scan.Container.{Container}
use Rattle.bt_bencode.specs.declared.scan.Container.TheVariants as container
use Rattle.bt_bencode.specs.declared.scan.Role.{Role}
use Rattle.bt_bencode.specs.declared.scan.Role.TheVariants as role
use Rattle.bt_bencode.specs.declared.scan.Sign.{Sign}
use Rattle.bt_bencode.specs.declared.scan.Sign.TheVariants as sign
use Rattle.bt_bencode.specs.declared.scan.Expect.{Expect}
use Rattle.bt_bencode.specs.declared.scan.Expect.TheVariants as expect

-- what a bit says to be open: 1 a dictionary
abbrev pub container_of : ℕ → Container
container_of zero = container.List
container_of (suc n) = container.Dict

-- The `depth` containers that `bits` says to be open, the lowest bit's the first.
abbrev pub opened : ℕ → ℕ → List Container
opened zero bits = []
opened (suc depth) bits = container_of (bits % 2) ∷ opened depth (bits / 2)

-- a decimal digit
abbrev pub IsDigit : ℕ → Type 0
IsDigit c = (48 ≤ c) × (c ≤ 57)

-- n bytes
abbrev pub TextThen : ℕ → (List ℕ → Type 0) → List ℕ → Type 0
TextThen n Then r = (n ≤ length r) × Then (drop n r)

-- The further digits of a number that has begun with n and is at most `limit`, the byte `stop`, and what the number asks for.
abbrev pub NumberThen : ℕ → ℕ → (ℕ → List ℕ → Type 0) → ℕ → List ℕ → Type 0
NumberThen limit stop Then n [] = ⊥
NumberThen limit stop Then n (c ∷ r) = ((c ≡ stop) × Then n r) ⊎ (IsDigit c × (0 < n) × (n * 10 + (c - 48) ≤ limit)
    × NumberThen limit stop Then (n * 10 + (c - 48)) r)

-- the same from the first digit on
abbrev pub DigitsThen : ℕ → ℕ → (ℕ → List ℕ → Type 0) → List ℕ → Type 0
DigitsThen limit stop Then [] = ⊥
DigitsThen limit stop Then (c ∷ r) = IsDigit c × NumberThen limit stop Then (c - 48) r

-- how large an integer's magnitude may be
abbrev pub magnitude_limit : Sign → ℕ
magnitude_limit sign.Minus = 2 ^ 63
magnitude_limit sign.Plus = 2 ^ 63 - 1

-- an integer after `i-`
abbrev pub NegativeThen : (List ℕ → Type 0) → List ℕ → Type 0
NegativeThen Then [] = ⊥
NegativeThen Then (c ∷ r) = (48 < c) × DigitsThen (2 ^ 63) 101 (λ _. Then) (c ∷ r)

-- an integer after `i`
abbrev pub IntegerThen : (List ℕ → Type 0) → List ℕ → Type 0
IntegerThen Then [] = ⊥
IntegerThen Then (c ∷ r) = ((c ≡ 45) × NegativeThen Then r) ⊎ DigitsThen (2 ^ 63 - 1) 101 (λ _. Then) (c ∷ r)

-- a value that nests at most `room` deep
abbrev pub ValueThen : ℕ → (List ℕ → Type 0) → List ℕ → Type 0
ValueThen room Then r = (t : Tree) × (rest : List ℕ) × FitsIn room t × (r ≡ ben t ++ rest) × Then rest

-- the further values of a list, and its end
abbrev pub ItemsThen : ℕ → (List ℕ → Type 0) → List ℕ → Type 0
ItemsThen room Then r = (ts : Trees) × (rest : List ℕ) × AllFitIn room ts × (r ≡ ben_all ts ++ 101 ∷ rest) × Then rest

-- the further pairs of a dictionary, and its end
abbrev pub PairsThen : ℕ → (List ℕ → Type 0) → List ℕ → Type 0
PairsThen room Then r = (ps : Pairs) × (rest : List ℕ) × PairsFitIn room ps × (r ≡ ben_pairs ps ++ 101 ∷ rest) × Then rest

-- the byte with which one begins
abbrev pub opening : Container → ℕ
opening container.List = 108
opening container.Dict = 100

-- how many more lists and dictionaries may nest inside these, the innermost first
abbrev pub room_in : List Container → ℕ
room_in stack = deepest_nesting - length stack

-- what may follow where these are open, and no part of a further item has been read
abbrev pub Rest : List Container → List ℕ → Type 0
Rest [] r = r ≡ []
Rest (container.List ∷ stack) r = ItemsThen (room_in (container.List ∷ stack)) (Rest stack) r
Rest (container.Dict ∷ stack) r = PairsThen (room_in (container.Dict ∷ stack)) (Rest stack) r

-- what may follow a string
abbrev pub AfterString : Role → List Container → List ℕ → Type 0
AfterString role.Key stack = ValueThen (room_in stack) (Rest stack)
AfterString role.Item stack = Rest stack

-- what is expected after a string
abbrev pub after_string : Role → Expect
after_string role.Key = expect.Value
after_string role.Item = expect.Item

-- what may follow where a scanner expects this
abbrev pub May : Expect → List Container → List ℕ → Type 0
May expect.Item stack r = Rest stack r
May expect.Value stack r = ValueThen (room_in stack) (Rest stack) r
May expect.Integer stack r = IntegerThen (Rest stack) r
May expect.Negative stack r = NegativeThen (Rest stack) r
May (expect.Digits side n) stack r = NumberThen (magnitude_limit side) 101 (λ _. Rest stack) n r
May (expect.Length part n) stack r = NumberThen longest_string 58 (λ k. TextThen k (AfterString part stack)) n r
May (expect.Text part n) stack r = TextThen n (AfterString part stack) r

-- the numbers are within their limits
abbrev pub IsLive : Expect → Type 0
IsLive expect.Item = ⊤
IsLive expect.Value = ⊤
IsLive expect.Integer = ⊤
IsLive expect.Negative = ⊤
IsLive (expect.Digits side n) = n ≤ magnitude_limit side
IsLive (expect.Length part n) = n ≤ longest_string
IsLive (expect.Text part n) = 0 < n

-- after the bytes, just what may follow there is what may follow now
pub record Goes (e : Expect) (stack : List Container) (bytes : List ℕ) (e' : Expect) (stack' : List Container) : Type 0 where
  pub live : IsLive e'
  pub forth : (r : List ℕ) → May e stack (bytes ++ r) → May e' stack' r
  pub back : (r : List ℕ) → May e' stack' r → May e stack (bytes ++ r)

-- the scanner goes on, or nothing may begin with the byte
abbrev pub Scans : Expect → List Container → ℕ → Option Expect → List Container → Type 0
Scans e stack byte None stack' = (r : List ℕ) → May e stack (byte ∷ r) → ⊥
Scans e stack byte (Some e') stack' = Goes e stack (byte ∷ []) e' stack'

-- the payload's dictionary has ended
abbrev pub IsDone : Expect → List Container → Type 0
IsDone e stack = (e ≡ expect.Item) × (stack ≡ [])

-- The scanner has read these bytes of a dictionary that goes on: just what may follow makes a spelling of them.
pub record HasRead (bytes : List ℕ) (e : Expect) (stack : List Container) : Type 0 where
  pub live : IsLive e
  pub forth : (r : List ℕ) → IsSpelling (bytes ++ r) → May e stack r
  pub back : (r : List ℕ) → May e stack r → IsSpelling (bytes ++ r)

-- between `at` and `end` the payload leads from the one expectation to the other
abbrev pub Leads : List ℕ → ℕ → Expect → List Container → ℕ → Expect → List Container → Type 0
Leads payload at e stack end e' stack' = Goes e stack (take (end - at) (drop at payload)) e' stack'
