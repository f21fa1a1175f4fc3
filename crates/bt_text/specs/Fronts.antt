-- What the front of a text is, read as a line of a script.
use Rattle.std.specs.Prelude.{◌≡◌, ℕ, ◌+◌, ◌*◌, ◌^◌, ◌<◌, ◌≤◌, Bool, true, false, List, [], ◌∷◌, ◌++◌, length, Some, None}
use Rattle.std.specs.Fmt.{decimal}
use Rattle.bt_wire.specs.Numbers.{be32}
use Rattle.bt_text.specs.declared.script.reading.LineFront.{LineFront}
use Rattle.bt_text.specs.declared.script.reading.LineFront.TheVariants as front
use Rattle.bt_text.specs.Script.{framed_by, IsLine, IsAdded}
use Rattle.bt_text.specs.Splitting.{IsCut}

-- the text's first line isn't too long, and its bytes are put after the old ones; `rest` follows its line feed
pub record IsLineFront (first : Bool) (limit : ℕ) (text rest old new : List ℕ) : Type 0 where
  pub line : List ℕ
  pub cut : IsCut text (Some (line, rest))
  pub short : length line ≤ 2 * limit + 256
  pub added : IsAdded first line old new true

-- the text's first line is too long, or no line of a script; nothing is put
pub record IsNoLine (first : Bool) (limit : ℕ) (text old new : List ℕ) : Type 0 where
  pub line : List ℕ
  pub rest : List ℕ
  pub cut : IsCut text (Some (line, rest))
  pub none : (bytes : List ℕ) → length line ≤ 2 * limit + 256 → IsLine first line bytes → ⊥
  pub same : new ≡ old

-- what the front of the text is: such a line, which `rest` follows; no line; or a text that no line feed ends
abbrev pub IsFront : Bool → ℕ → List ℕ → List ℕ → List ℕ → LineFront → Type 0
IsFront first limit text old new (front.Line rest) = IsLineFront first limit text rest.now old new
IsFront first limit text old new front.Syntax = IsNoLine first limit text old new
IsFront first limit text old new front.Unended = IsCut text None × (new ≡ old)

-- ---- for private contracts alone: a line of numbers only or of a name, what stands before the line feed, and the message that is put after the old bytes

-- the text's first line is a message's and short, and its bytes are put after the old ones
abbrev pub IsShortLine : List ℕ → List ℕ → List ℕ → List ℕ → Type 0
IsShortLine text rest old new = IsLineFront false 0 text rest old new

-- a text that begins with a line of no fields
abbrev pub AddsBare : ℕ → (line text rest old new : List ℕ) → Type 0
AddsBare id line text rest old new = (text ≡ line ++ rest) × (new ≡ old ++ framed_by id [])

abbrev pub AddsIndex : ℕ → List ℕ → List ℕ → List ℕ → List ℕ → Type 0
AddsIndex id text rest old new = (n : ℕ) × (n < 2 ^ 32) × (text ≡ decimal n ++ 10 ∷ rest) × (new ≡ old ++ framed_by id (be32 n))

-- three numbers, a space between two of them, and their bytes
pub record HasPart (bytes text rest : List ℕ) : Type 0 where
  pub index : ℕ
  pub begin : ℕ
  pub length : ℕ
  pub index_fits : index < 2 ^ 32
  pub begin_fits : begin < 2 ^ 32
  pub length_fits : length < 2 ^ 32
  pub parts : text ≡ decimal index ++ 32 ∷ (decimal begin ++ 32 ∷ (decimal length ++ 10 ∷ rest))
  pub spelled : bytes ≡ be32 index ++ (be32 begin ++ be32 length)

abbrev pub AddsPart : ℕ → List ℕ → List ℕ → List ℕ → List ℕ → Type 0
AddsPart id text rest old new = (bytes : List ℕ) × HasPart bytes text rest × (new ≡ old ++ framed_by id bytes)
