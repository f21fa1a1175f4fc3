-- The result of packing a script: its lines, the bytes that they name one after the other, and the first line that
-- isn't taken.
use Rattle.std.specs.Prelude.{◌≡◌, ◌⊎◌, ℕ, ◌+◌, ◌-◌, ◌*◌, ◌≤◌, ◌<◌, ⊤, Bool, true, false, List, [], ◌∷◌, ◌++◌, length, Option, Some, Result}
use Rattle.std.specs.Prelude.{MatchResult}
use Rattle.std.specs.Io.KnownBytes.{Consumes, Appends}
use Rattle.std.specs.List.{flat_map}
use Rattle.bt_wire.specs.declared.context.Own.{Own}
use Rattle.bt_wire.specs.declared.item.Refusal.{Refusal}
use Rattle.bt_wire.specs.Streams.{Outcome, IsVerdict}
use Rattle.bt_text.specs.declared.ended.PackEnd.{PackEnd}
use Rattle.bt_text.specs.declared.ended.PackEnd.TheVariants.{Accepted, Refused}
use Rattle.bt_text.specs.declared.ended.ScriptReason.{ScriptReason}
use Rattle.bt_text.specs.declared.ended.ScriptReason.TheVariants.{Syntax, Reason}
use Rattle.bt_text.specs.declared.ended.ToolFault.{ToolFault}
use Rattle.bt_io.specs.Seen.{Devices, EndRead, AppendsPrefix}
use Rattle.bt_text.specs.Script.{IsLine, has_feed}

-- ---- the lines of a text

-- the lines, each with its line feed
abbrev pub ended_lines : List (List ℕ) → List ℕ
ended_lines lines = flat_map (λ line. line ++ 10 ∷ []) lines

abbrev pub AreWhole : List (List ℕ) → Type 0
AreWhole [] = ⊤
AreWhole (line ∷ lines) = (has_feed line ≡ false) × AreWhole lines

-- the text is these lines, each ended by a line feed, and then what no line feed ends
pub record IsSplit (text : List ℕ) (lines : List (List ℕ)) (rest : List ℕ) : Type 0 where
  pub parts : text ≡ ended_lines lines ++ rest
  pub whole : AreWhole lines
  pub last : has_feed rest ≡ false

-- a last line may lack its line feed
abbrev pub with_last : List (List ℕ) → List ℕ → List (List ℕ)
with_last lines [] = lines
with_last lines (c ∷ cs) = lines ++ (c ∷ cs) ∷ []

abbrev pub AreLines : List ℕ → List (List ℕ) → Type 0
AreLines text all = (lines : List (List ℕ)) × (rest : List ℕ) × IsSplit text lines rest × (all ≡ with_last lines rest)

-- ---- lines that are taken

-- the text isn't too long for a line, and is one with these bytes
pub record IsNamed (limit : ℕ) (first : Bool) (text bytes : List ℕ) : Type 0 where
  pub short : length text ≤ 2 * limit + 256
  pub line : IsLine first text bytes

abbrev pub is_none : List (List ℕ) → Bool
is_none [] = true
is_none (line ∷ lines) = false

-- the lines name these bytes in their order: where the first is to be a handshake's, it is, and all others are messages'
abbrev pub AreNamed : ℕ → Bool → List (List ℕ) → List ℕ → Type 0
AreNamed limit first [] b = b ≡ []
AreNamed limit first (line ∷ lines) b = (x : List ℕ) × (rest : List ℕ) × IsNamed limit first line x × (b ≡ x ++ rest) × AreNamed limit false lines rest

-- the lines name b, and b is the items of a stream: nothing of it is refused or left over
pub record AreTaken (own : Own) (lines : List (List ℕ)) (b : List ℕ) (v : Outcome) : Type 0 where
  pub named : AreNamed own.limit true lines b
  pub verdict : IsVerdict own b v
  pub nothing_left : v.tail ≡ []

-- the text is no line or too long for one, or it is one whose bytes are refused where they stand
abbrev pub IsNotTaken : Own → Bool → List ℕ → List ℕ → Outcome → ScriptReason → Type 0
IsNotTaken own first text b v Syntax = (x : List ℕ) → IsNamed own.limit first text x → ⊥
IsNotTaken own first text b v (Reason reason) =
    (x : List ℕ) × IsNamed own.limit first text x × (w : Outcome) × IsVerdict own (b ++ x) w × (w.items ≡ v.items) × (r : Refusal) × (w.refusal ≡ Some r)
    × (reason ≡ r.reason)

-- the first of the lines that isn't taken, after those that name b
pub record IsStop (own : Own) (all : List (List ℕ)) (b : List ℕ) (number : ℕ) (reason : ScriptReason) : Type 0 where
  pub before : List (List ℕ)
  pub line : List ℕ
  pub following : List (List ℕ)
  pub parts : all ≡ before ++ line ∷ following
  pub verdict : Outcome
  pub taken : AreTaken own before b verdict
  pub count : number ≡ length before + 1
  pub not_taken : IsNotTaken own (is_none before) line b verdict reason

-- a script without lines is refused in line 1; another is refused in the first line that isn't taken, or is accepted with the
-- counts of its bytes' verdict
pub data IsPacked (own : Own) (all : List (List ℕ)) (b : List ℕ) (e : PackEnd) : Type 0 where
  empty : all ≡ [] → b ≡ [] → e ≡ Refused 1 Syntax → IsPacked own all b e
  stopped : (number : ℕ) → (reason : ScriptReason) → IsStop own all b number reason → e ≡ Refused number reason → IsPacked own all b e
  accepted : (v : Outcome) → is_none all ≡ false → AreTaken own all b v → e ≡ Accepted (v.number - 1) (length b) → IsPacked own all b e

-- ---- a run

-- the line with this number is ended by a line feed, or it is too long
abbrev pub IsEndedLine : ℕ → List ℕ → ℕ → Type 0
IsEndedLine limit text number =
    (lines : List (List ℕ)) × (rest : List ℕ) × IsSplit text lines rest
    × ((number ≤ length lines) ⊎ ((number ≡ length lines + 1) × (2 * limit + 256 < length rest)))

-- what the end of the text alone decides is answered only there
abbrev pub IsTimely : ℕ → List ℕ → Type 0 → PackEnd → Type 0
IsTimely limit text AtEnd (Accepted messages bytes) = AtEnd
IsTimely limit text AtEnd (Refused number reason) = IsEndedLine limit text number ⊎ AtEnd

-- the text begins with these lines, each ended by a line feed; only where the end was read may one that none ends be the last
abbrev pub AreFrontLines : List ℕ → Type 0 → List (List ℕ) → Type 0
AreFrontLines text AtEnd lines = ((following : List ℕ) × (text ≡ ended_lines lines ++ following) × AreWhole lines) ⊎ (AtEnd × AreLines text lines)

-- a prefix of the bytes of such lines is written, which are taken
abbrev pub IsFrontPacked : Own → List ℕ → Devices → Devices → Type 0
IsFrontPacked own text before after =
    (lines : List (List ℕ)) × (b : List ℕ) × (v : Outcome) × AreFrontLines text (EndRead before.source after.source) lines × AreTaken own lines b v
    × AppendsPrefix before.target.held after.target.held b

-- the lines that line feeds end in what was read, from the one state of the source to the other, are taken
abbrev pub AreTakenTo : Own → Option (List ℕ) → Option (List ℕ) → Type 0
AreTakenTo own left left' =
    (text : List ℕ) × (lines : List (List ℕ)) × (rest : List ℕ) × Consumes left left' text × IsSplit text lines rest
    × (b : List ℕ) × (v : Outcome) × AreTaken own lines b v

-- what was read is a text of these lines: what is written and answered is the result of packing them, or at a fault a prefix is written
abbrev pub IsPackRun : Own → Devices → Devices → Result PackEnd ToolFault → Type 0
IsPackRun own before after r =
    (text : List ℕ) × (all : List (List ℕ)) × Consumes before.source.left after.source.left text × AreLines text all
    × MatchResult r (λ e. (b : List ℕ) × IsPacked own all b e × Appends before.target.held after.target.held b
    × IsTimely own.limit text (EndRead before.source after.source) e) (λ _. IsFrontPacked own text before after)
