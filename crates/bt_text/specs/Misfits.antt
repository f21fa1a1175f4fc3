-- The first word of a script's line that can't stand in its place.
use Rattle.std.specs.Prelude.{◌≡◌, ◌==◌, ◌⊎◌, if◌then◌else◌, ℕ, ◌+◌, Bool, true, false, List, [], ◌∷◌, ◌++◌, length, codes, decimal, Option, None, Some}
use Rattle.std.specs.Char.{is_ascii_digit}
use Rattle.std.specs.List.{AllPass}
use Rattle.bt_wire.specs.declared.ids.Shape.{Shape}
use Rattle.bt_wire.specs.declared.ids.Shape.TheVariants.{Nothing, Index, Part, Block, Field, Extended}
use Rattle.bt_wire.specs.declared.ids.Shape.TheVariants as shapes
use Rattle.bt_wire.specs.Ids.{ids, row_named}
use Rattle.bt_text.specs.Script.{IsLine, has_no_space}
use Rattle.bt_text.specs.ScriptReading.{word_of}
use Rattle.bt_text.specs.declared.script.misfit.Expected.{Expected}
use Rattle.bt_text.specs.declared.script.misfit.Expected.TheVariants.{Handshake, Name, Reserved, InfoHash, PeerId, Number, Port, Byte, FreeId, Bytes, End}
use Rattle.bt_text.specs.declared.script.misfit.Misfit.{Misfit}

-- ---- what is expected in a place

-- a word that may stand where this is expected
abbrev pub sample : Expected → List ℕ
sample Handshake = codes "handshake"
sample Name = codes "choke"
sample Reserved = codes "0000000000000000"
sample InfoHash = codes "0000000000000000000000000000000000000000"
sample PeerId = codes "0000000000000000000000000000000000000000"
sample Number = codes "0"
sample Port = codes "0"
sample Byte = codes "0"
sample FreeId = codes "10"
sample Bytes = codes "-"
sample End = []

-- such words, each after a space
abbrev pub samples : List Expected → List ℕ
samples [] = []
samples (e ∷ es) = codes " " ++ (sample e ++ samples es)

-- what is expected after the name of a message, by the shape of its fields
abbrev pub expected_of : Shape → List Expected
expected_of Nothing = []
expected_of Index = Number ∷ []
expected_of Part = Number ∷ Number ∷ Number ∷ []
expected_of Block = Number ∷ Number ∷ Bytes ∷ []
expected_of shapes.Port = Port ∷ []
expected_of Field = Bytes ∷ []
expected_of Extended = Byte ∷ Bytes ∷ []

abbrev pub expected_words : Expected → List ℕ
expected_words Handshake = codes "the word handshake"
expected_words Name = codes "the name of a message"
expected_words Reserved = codes "the reserved bytes, 16 hex digits"
expected_words InfoHash = codes "the info hash, 40 hex digits"
expected_words PeerId = codes "the peer id, 40 hex digits"
expected_words Number = codes "a number from 0 to 4294967295"
expected_words Port = codes "a number from 0 to 65535"
expected_words Byte = codes "a number from 0 to 255"
expected_words FreeId = codes "a number from 0 to 255 that is the id of no message"
expected_words Bytes = codes "bytes in hex, two digits each, or -"
expected_words End = codes "the end of the line"

-- ---- the first word that can't stand

-- the words `front`, and after them samples of what is expected, are a line
abbrev pub IsCompleted : Bool → List ℕ → List Expected → Type 0
IsCompleted first front es = (bytes : List ℕ) × IsLine first (front ++ samples es) bytes

-- whether they are
abbrev pub IsCompletedOr : Bool → List ℕ → List Expected → Bool → Type 0
IsCompletedOr first front es true = IsCompleted first front es
IsCompletedOr first front es false = IsCompleted first front es → ⊥

-- no line has this name
abbrev pub IsNoName : Bool → List ℕ → Type 0
IsNoName true name = name ≡ codes "handshake" → ⊥
IsNoName false name = (row_named name ids ≡ None) × (name ≡ codes "keep-alive" → ⊥) × (name ≡ codes "unknown" → ⊥)

-- In column `m.column`, counted from 1, stands the first word that can't stand there. The words before it make a line with a sample
-- of what is expected there and of what follows; with the word itself and samples of what follows they don't. If a word is missing,
-- the text only begins a line. If a word is too many, the words before it are a line.
pub data IsMisfit (first : Bool) (text : List ℕ) (m : Misfit) : Type 0 where
  no_name : IsNoName first (word_of text) → m.column ≡ 1 → m.expected ≡ (if first then Handshake else Name) → IsMisfit first text m
  wrong_word : (front : List ℕ) → (rest : List ℕ) → (after : List Expected) → text ≡ front ++ (codes " " ++ rest)
      → IsCompleted first front (m.expected ∷ after) → (IsCompleted first (front ++ (codes " " ++ word_of rest)) after → ⊥)
      → m.column ≡ length front + 2 → IsMisfit first text m
  missing : (after : List Expected) → IsCompleted first text (m.expected ∷ after) → m.column ≡ length text + 1 → IsMisfit first text m
  too_many : (front : List ℕ) → (rest : List ℕ) → text ≡ front ++ (codes " " ++ rest) → IsCompleted first front [] → m.expected ≡ End
      → m.column ≡ length front + 2 → IsMisfit first text m

-- there is such a word, or the text is a line
abbrev pub IsMisfitOr : Bool → List ℕ → Option Misfit → Type 0
IsMisfitOr first text None = (bytes : List ℕ) × IsLine first text bytes
IsMisfitOr first text (Some m) = IsMisfit first text m

-- ---- its line

abbrev pub misfit_line : ℕ → Misfit → List ℕ
misfit_line number m = codes "hint: line " ++ (decimal number ++ (codes ", column " ++ (decimal m.column ++ (codes ": expected "
    ++ (expected_words m.expected ++ codes "\n")))))

-- ---- a block that may be meant as a length

-- two, four, six or eight decimal digits
pub record IsShortNumber (word : List ℕ) : Type 0 where
  pub digits : AllPass is_ascii_digit word
  pub size : (length word ≡ 2) ⊎ ((length word ≡ 4) ⊎ ((length word ≡ 6) ⊎ (length word ≡ 8)))

-- the line of a piece, with a word each for its index and its begin, whose block has such digits of hex
pub record IsDecimalBlock (text block : List ℕ) : Type 0 where
  pub index : List ℕ
  pub begin : List ℕ
  pub words : (has_no_space index ≡ true) × (has_no_space begin ≡ true)
  pub parts : text ≡ codes "piece " ++ (index ++ (codes " " ++ (begin ++ (codes " " ++ block))))
  pub number : IsShortNumber block

abbrev pub HasNoDecimalBlock : List ℕ → Type 0
HasNoDecimalBlock text = (block : List ℕ) → IsDecimalBlock text block → ⊥

abbrev pub block_size : ℕ → List ℕ
block_size n =
    if n == 2 then codes "one byte" else if n == 4 then codes "two bytes" else if n == 6 then codes "three bytes" else codes "four bytes"

abbrev pub block_line : ℕ → List ℕ → List ℕ
block_line number block = codes "hint: line " ++ (decimal number ++ (codes ": piece INDEX BEGIN HEX: \"" ++ (block ++ (codes "\" is "
    ++ (block_size (length block) ++ codes " of a block; a request has a length\n")))))
