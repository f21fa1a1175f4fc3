-- A text and its lines.
use Rattle.std.proofs.Common.{◌≡◌, ℕ, ◌==◌, Bool, false, List, [], ◌∷◌, ◌++◌, length, refl, sym, ap, subst}
use Rattle.std.proofs.Common.{◌∙◌, arith, inl, inr}
use Rattle.std.specs.Prelude.{◌||◌}
use Rattle.std.proofs.lemmas.Bool.{cases_Bool, eqb-true}
use Rattle.std.proofs.lemmas.List.{append-nil, append_assoc, length-append}
use Rattle.std.proofs.lemmas.Grind.{flat_map-append}
use Rattle.bt_text.specs.Script.{has_feed}
use Rattle.bt_jobs.specs.Packs.{ended_lines, with_last, AreWhole, AreLines, IsSplit}

-- ---- pieces of a text

pub ended_both : (lines more : List (List ℕ)) → ended_lines (lines ++ more) ≡ ended_lines lines ++ ended_lines more
ended_both lines more = flat_map-append (λ line. line ++ 10 ∷ []) lines more

pub ended_more : (lines : List (List ℕ)) (line : List ℕ) → ended_lines (lines ++ line ∷ []) ≡ ended_lines lines ++ (line ++ 10 ∷ [])
ended_more lines line = ended_both lines (line ∷ []) ∙ ap (λ (t : List ℕ). ended_lines lines ++ t) (append-nil (line ++ 10 ∷ []))

pub whole_both : (lines more : List (List ℕ)) → AreWhole lines → AreWhole more → AreWhole (lines ++ more)
whole_both [] more h k = k
whole_both (l ∷ lines) more h k = (h.0, whole_both lines more h.1 k)

pub whole_front : (lines more : List (List ℕ)) → AreWhole (lines ++ more) → AreWhole lines
whole_front [] more h = tt
whole_front (l ∷ lines) more h = (h.0, whole_front lines more h.1)

-- the lines before one of a text are ended
before_last : (lines before following : List (List ℕ)) (last line : List ℕ) → lines ++ last ∷ [] ≡ before ++ line ∷ following → (more : List (List ℕ))
    × (lines ≡ before ++ more)
before_last lines [] following last line e = (lines, refl)
before_last [] (b ∷ before) following last line e = absurd (omega (arith, ap length e, length-append before (line ∷ following)))
before_last (l ∷ lines) (b ∷ before) following last line e =
    let same : l ≡ b = cc in
    let rest : lines ++ last ∷ [] ≡ before ++ line ∷ following = cc in
    let more = before_last lines before following last line rest in
    (more.0, ap (λ (x : List ℕ). x ∷ lines) same ∙ ap (λ (ls : List (List ℕ)). b ∷ ls) more.1)

before_by : (lines before following : List (List ℕ)) (rest line : List ℕ) → with_last lines rest ≡ before ++ line ∷ following → (more : List (List ℕ))
    × (lines ≡ before ++ more)
before_by lines before following [] line e = (line ∷ following, e)
before_by lines before following (c ∷ cs) line e = before_last lines before following (c ∷ cs) line e

pub ended_before : (text : List ℕ) (all before following : List (List ℕ)) (line : List ℕ) → AreLines text all → all ≡ before ++ line ∷ following
    → (rest : List ℕ) × (text ≡ ended_lines before ++ rest) × AreWhole before
ended_before text all before following line h e =
    let s = h.2 in
    let more = before_by h.0 before following h.1 line (sym h.3 ∙ e) in
    let parts : text ≡ ended_lines before ++ (ended_lines more.0 ++ h.1) =
    s.parts ∙ ap (λ (ls : List (List ℕ)). ended_lines ls ++ h.1) more.1 ∙ ap (λ (t : List ℕ). t ++ h.1) (ended_both before more.0)
    ∙ append_assoc (ended_lines before) (ended_lines more.0) h.1 in
    (ended_lines more.0 ++ h.1, parts, whole_front before more.0 (subst AreWhole more.1 s.whole))

-- every text has its lines
first_more : (c : ℕ) (cs : List ℕ) (lines : List (List ℕ)) (rest : List ℕ) → (c == 10) ≡ false → IsSplit cs lines rest → (ls : List (List ℕ)) × (r : List ℕ)
    × IsSplit (c ∷ cs) ls r
first_more c cs [] rest e s = (
  [],
  c ∷ rest,
  record {
    parts = ap (λ (t : List ℕ). c ∷ t) s.parts;
    whole = tt;
    last = ap (λ (b : Bool). b || has_feed rest) e
        ∙ s.last;
  },
)
first_more c cs (l ∷ lines) rest e s = (
  (c ∷ l) ∷ lines,
  rest,
  record {
    parts = ap (λ (t : List ℕ). c ∷ t) s.parts;
    whole = (ap (λ (b : Bool). b || has_feed l) e ∙ s.whole.0, s.whole.1);
    last = s.last;
  },
)

pub split_of : (t : List ℕ) → (ls : List (List ℕ)) × (r : List ℕ) × IsSplit t ls r
split_of [] = ([], [], record { parts = refl; whole = tt; last = refl })
split_of (c ∷ cs) =
    let s = split_of cs in
    elim (cases_Bool (c == 10)) [
      | inl e ↦ (
        [] ∷ s.0,
        s.1,
        record {
          parts = ap (λ (t : List ℕ). c ∷ t) s.2.parts ∙ ap (λ (k : ℕ). k ∷ (ended_lines s.0 ++ s.1)) (eqb-true c 10 e);
          whole = (refl, s.2.whole);
          last = s.2.last;
        },
      )
      | inr e ↦ first_more c cs s.0 s.1 e s.2
    ]
