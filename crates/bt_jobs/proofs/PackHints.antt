-- The hints of a script's lines.
use Rattle.std.proofs.Common.{ℕ, ◌+◌, Bool, List, ◌∷◌, Option, Some, None, refl, ◌∙◌}
use Rattle.std.proofs.lemmas.List.{append_assoc}
use Rattle.bt_text.specs.declared.ended.PackEnd.{PackEnd}
use Rattle.bt_text.specs.Splitting.{IsCut}
use Rattle.bt_jobs.specs.Packs.{IsSplit}
use Rattle.bt_jobs.specs.PackHints.{IsLineHint, IsPackHint}
use Rattle.bt_jobs.proofs.PackText.{split_of}

cut_split : {text line following rest : List ℕ} {lines : List (List ℕ)} → IsCut text (Some (line, following)) → IsSplit following lines rest
    → IsSplit text (line ∷ lines) rest
cut_split cut s = record { parts = cut.0 ∙ (rw s.parts (simp append_assoc)); whole = (cut.1, s.whole); last = s.last }

pub no_hint : (end : PackEnd) {is_all : Bool} {number : ℕ} {text : List ℕ} (line : List ℕ) {following : List ℕ} (hint : Option (List ℕ))
    → IsCut text (Some (line, following)) → IsLineHint end number line None → IsPackHint end is_all (number + 1) following hint
    → IsPackHint end is_all number text hint
no_hint end line hint cut none h = (line ∷ h.0, h.1, cut_split cut h.2, (None, none, h.3))

pub one_hint : (end : PackEnd) {is_all : Bool} {number : ℕ} {text : List ℕ} (line following hint : List ℕ) → IsCut text (Some (line, following))
    → IsLineHint end number line (Some hint) → IsPackHint end is_all number text (Some hint)
one_hint end line following hint cut is = let s = split_of following in (line ∷ s.0, s.1, cut_split cut s.2, (Some hint, is, refl))
