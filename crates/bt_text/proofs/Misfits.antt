-- Walking through a line of a script, word by word.
use Rattle.std.proofs.Common.{◌≡◌, ℕ, ◌+◌, ◌<◌, ◌≤◌, Bool, true, false, ◌==◌, inl, inr, List, [], ◌∷◌, ◌++◌, length, drop, get_or, refl, sym, ap, subst, ◌∙◌, arith}
use Rattle.std.proofs.Common.{Option, Some, None}
use Rattle.std.specs.Prelude.{codes, decimal, option_map}
use Rattle.std.specs.Str.{bytes_eq}
use Rattle.std.proofs.lemmas.Bool.{cases_Bool, eqb-true}
use Rattle.std.proofs.lemmas.Fmt.{decimal_digit}
use Rattle.std.proofs.lemmas.Option.{same_Some}
use Rattle.std.proofs.lemmas.Slice.Eq.{bytes_eq-Decides}
use Rattle.hex.specs.Hex.{decode_pairs}
use Rattle.itoa.proofs.Decimal.{decimal_two}
use Rattle.bt_wire.specs.declared.ids.Shape.{Shape}
use Rattle.bt_wire.specs.declared.ids.Shape.TheVariants as shapes
use Rattle.bt_wire.specs.Ids.{Id, ids, row_named}
use Rattle.bt_wire.specs.Messages.{Fields, none, index, part, block, port, field, extended, spell_fields, AreInRange}
use Rattle.bt_wire.specs.Numbers.{be32}
use Rattle.bt_text.specs.Script.{has_no_space, SaysFields, shape_of, keep_alive, known, unknown, framed_by}
use Rattle.std.proofs.lemmas.List.{append-nil, append_assoc, nil_from_length, drop_all, drop_more}
use Rattle.bt_text.specs.ScriptReading.{word_of, after_word, ends}
use Rattle.bt_text.specs.Misfits.{IsShortNumber, IsDecimalBlock, samples, expected_of, IsCompleted, IsCompletedOr, IsMisfit, IsMisfitOr, wrong_word, missing, too_many}
use Rattle.bt_text.specs.declared.script.misfit.Expected.{Expected}
use Rattle.bt_text.specs.declared.script.misfit.Expected.TheVariants.{Reserved, InfoHash, PeerId, FreeId, Bytes, End}
use Rattle.bt_text.proofs.ScriptLines.{line_in-Some}
use Rattle.bt_text.proofs.ScriptWords.{word-parts, after_word-append}

pub not_completed : (first : Bool) (front : List ℕ) (es : List Expected) (is : Bool) → is ≡ false → IsCompletedOr first front es is
    → IsCompleted first front es → ⊥
not_completed first front es true e h = absurd cc
not_completed first front es false e h = h

pub completed_is : (first : Bool) (front : List ℕ) (es : List Expected) (is : Bool) → is ≡ true → IsCompletedOr first front es is → IsCompleted first front es
completed_is first front es true e h = h
completed_is first front es false e h = absurd cc

-- A walk through a line: front is done, rest follows, es are expected from k on, and the column is that of front's end.
pub record IsAt (first : Bool) (text front rest : List ℕ) (es : List Expected) (k column : ℕ) : Type 0 where
  pub whole : front ++ rest ≡ text
  pub completed : IsCompleted first front (drop k es)
  pub here : column ≡ length front

-- the rest begins with a space
pub spaced : {rest tail : List ℕ} {space : ℕ} → rest ≡ space ∷ tail → ends rest ≡ true → rest ≡ 32 ∷ tail
spaced {rest} {tail} {space} r e = r ∙ ap (λ (x : ℕ). x ∷ tail) (eqb-true space 32 (ap ends (sym r) ∙ e))

whole_text : {first : Bool} {text front rest : List ℕ} {es : List Expected} {k column : ℕ} (tail : List ℕ) → IsAt first text front rest es k column
    → rest ≡ 32 ∷ tail → text ≡ front ++ (32 ∷ tail)
whole_text {front = front} tail at r = sym at.whole ∙ ap (λ (x : List ℕ). front ++ x) r

next_expected : {first : Bool} {text front rest : List ℕ} {es : List Expected} {k column : ℕ} (d : Expected) → IsAt first text front rest es k column
    → k < length es → IsCompleted first front (get_or es k d ∷ drop (k + 1) es)
next_expected {first} {front = front} {es = es} {k = k} d at within =
    subst (λ (l : List Expected). IsCompleted first front l) (drop_more es k d within) at.completed

all_read : {first : Bool} {text front rest : List ℕ} {es : List Expected} {k column : ℕ} → IsAt first text front rest es k column
    → length rest ≡ 0 → front ≡ text
all_read {front = front} {rest = rest} at ended = sym (append-nil front) ∙ ap (λ (x : List ℕ). front ++ x) (sym (nil_from_length rest ended)) ∙ at.whole

pub missing_word : {first : Bool} {text front rest : List ℕ} {es : List Expected} {k column : ℕ} (d : Expected) → IsAt first text front rest es k column
    → k < length es → length rest ≡ 0 → IsMisfit first text (record { column = column + 1; expected = get_or es k d })
missing_word {first} {es = es} {k = k} d at within ended =
    let same = all_read at ended in
    missing (drop (k + 1) es) (subst (λ (l : List ℕ). IsCompleted first l (get_or es k d ∷ drop (k + 1) es)) same (next_expected d at within))
    (ap (λ (n : ℕ). n + 1) (at.here ∙ ap (λ (l : List ℕ). length l) same))

pub is_line : {first : Bool} {text front rest : List ℕ} {es : List Expected} {k column : ℕ} → IsAt first text front rest es k column
    → length es ≤ k → length rest ≡ 0 → IsMisfitOr first text None
is_line {first} {front = front} {es = es} {k = k} at ended nothing =
    let whole = subst (λ (l : List Expected). IsCompleted first front l) (drop_all k es ended) at.completed in
    subst (λ (l : List ℕ). IsMisfitOr first l None) (append-nil front ∙ all_read at nothing) whole

pub wrong : {first : Bool} {text front rest tail new : List ℕ} {es : List Expected} {k column : ℕ} (d : Expected) → IsAt first text front rest es k column
    → k < length es → rest ≡ 32 ∷ tail → new ≡ (front ++ (32 ∷ [])) ++ word_of tail → (IsCompleted first new (drop (k + 1) es) → ⊥)
    → IsMisfit first text (record { column = column + 1 + 1; expected = get_or es k d })
wrong {first} {front = front} {tail = tail} {new = new} {es = es} {k = k} d at within r n broken =
    let same : new ≡ front ++ (32 ∷ word_of tail) = n ∙ append_assoc front (32 ∷ []) (word_of tail) in
    wrong_word front tail (drop (k + 1) es) (whole_text tail at r) (next_expected d at within)
    (subst (λ (l : List ℕ). IsCompleted first l (drop (k + 1) es) → ⊥) same broken) (omega (arith, at.here))

pub one_more : {first : Bool} {text front rest tail new next : List ℕ} {es : List Expected} {k column : ℕ} → IsAt first text front rest es k column
    → rest ≡ 32 ∷ tail → new ≡ (front ++ (32 ∷ [])) ++ word_of tail → next ≡ after_word tail → new ++ next ≡ text
one_more {front = front} {tail = tail} at r n b =
    rw n (rw b (append_assoc (front ++ (32 ∷ [])) (word_of tail) (after_word tail)
    ∙ ap (λ (x : List ℕ). (front ++ (32 ∷ [])) ++ x) (word-parts tail) ∙ append_assoc front (32 ∷ []) tail
    ∙ sym (whole_text tail at r)))

pub more_words : {first : Bool} {text front : List ℕ} {es : List Expected} {k column : ℕ} (rest : List ℕ) → IsAt first text front rest es k column
    → length es ≤ k → ends rest ≡ true → (length rest ≡ 0 → ⊥) → IsMisfit first text (record { column = column + 2; expected = End })
more_words [] at ended e some = absurd (some refl)
more_words {first} {front = front} {es = es} {k = k} (c ∷ tail) at ended e some =
    let none = subst (λ (l : List Expected). IsCompleted first front l) (drop_all k es ended) at.completed in
    too_many front tail (whole_text tail at (spaced refl e)) none refl (omega (arith, at.here))

-- ---- a name and samples of what follows it

record IsSample (s : Shape) (f : Fields) : Type 0 where
  shape : shape_of f ≡ Some s
  fields : AreInRange f
  says : SaysFields (samples (expected_of s)) f

nought : decimal 0 ≡ codes "0"
nought = decimal_digit 0 (omega arith)

sampled : (s : Shape) → (f : Fields) × IsSample s f
sampled shapes.Nothing = (none, record { shape = refl; fields = tt; says = refl })
sampled shapes.Index = (index 0, record { shape = refl; fields = omega arith; says = rw nought refl })
sampled shapes.Part = (part 0 0 0, record { shape = refl; fields = (omega arith, omega arith, omega arith); says = rw nought refl })
sampled shapes.Block = (block 0 0 [], record { shape = refl; fields = (omega arith, omega arith); says = (codes " -", rw nought refl, (codes "-", refl, refl)) })
sampled shapes.Port = (port 0, record { shape = refl; fields = omega arith; says = rw nought refl })
sampled shapes.Field = (field [], record { shape = refl; fields = tt; says = (codes "-", refl, refl) })
sampled shapes.Extended = (extended 0 [], record { shape = refl; fields = omega arith; says = (codes " -", rw nought refl, (codes "-", refl, refl)) })

pub row_completed : (name : List ℕ) (o : Option Id) (p : ℕ × Shape) → row_named name ids ≡ o → Some p ≡ option_map (λ i. (i.number, i.kind.shape)) o
    → IsCompleted false name (expected_of p.1)
row_completed name None p e h = absurd cc
row_completed name (Some i) p e h =
    let same : p.1 ≡ i.kind.shape = ap (λ (q : ℕ × Shape). q.1) (same_Some _ _ h) in
    let s = sampled i.kind.shape in
    rw same (
      framed_by i.number (spell_fields s.0),
      (known i s.0, (name, samples (expected_of i.kind.shape), refl, record { named = e; shape = s.1.shape; fields = s.1.fields }, s.1.says), refl),
    )

pub alive_completed : (name : List ℕ) → bytes_eq name (codes "keep-alive") ≡ true → IsCompleted false name []
alive_completed name e = rw ((bytes_eq-Decides name (codes "keep-alive")).0 e) (be32 0, (keep_alive, refl, refl))

pub unknown_completed : (name : List ℕ) → bytes_eq name (codes "unknown") ≡ true → IsCompleted false name (FreeId ∷ Bytes ∷ [])
unknown_completed name e =
    rw ((bytes_eq-Decides name (codes "unknown")).0 e)
    (framed_by 10 [], (unknown 10 [], (codes " -", rw (decimal_two 10 (omega arith) (omega arith)) refl, omega arith, refl, (codes "-", refl, refl)), refl))

pub hand_completed : (name : List ℕ) → bytes_eq name (codes "handshake") ≡ true → IsCompleted true name (Reserved ∷ InfoHash ∷ PeerId ∷ [])
unfolding decode_pairs
hand_completed name e =
    rw ((bytes_eq-Decides name (codes "handshake")).0 e)
    (_, line_in-Some true (codes "handshake" ++ samples (Reserved ∷ InfoHash ∷ PeerId ∷ [])) _ refl)

pub spaceless : (t : List ℕ) → has_no_space (word_of t) ≡ true
spaceless [] = refl
spaceless (c ∷ cs) =
    elim (cases_Bool (c == 32)) [
      | inl e ↦ rw e refl
      | inr e ↦ rw (e, e, spaceless cs) refl
    ]

-- a line of a piece, and what is read of one
pub block_parts : (rest one hex : List ℕ) → after_word rest ≡ 32 ∷ one → after_word one ≡ 32 ∷ hex → IsShortNumber hex
    → IsDecimalBlock (codes "piece " ++ rest) hex
block_parts rest one hex p q short = record {
  index = word_of rest;
  begin = word_of one;
  words = (spaceless rest, spaceless one);
  parts = ap (λ (l : List ℕ). codes "piece " ++ l) (sym (word-parts rest)
      ∙ ap (λ (l : List ℕ). word_of rest ++ l) (p ∙ ap (λ (l : List ℕ). 32 ∷ l) (sym (word-parts one) ∙ ap (λ (l : List ℕ). word_of one ++ l) q)));
  number = short;
}

pub block_read : (rest hex : List ℕ) → IsDecimalBlock (codes "piece " ++ rest) hex → (one : List ℕ) × (after_word rest ≡ 32 ∷ one)
    × (after_word one ≡ 32 ∷ hex)
block_read rest hex h =
    let one = h.begin ++ (32 ∷ hex) in
    let same : rest ≡ h.index ++ (32 ∷ one) = ap (drop 6) h.parts in
    (one, ap after_word same ∙ after_word-append h.index (32 ∷ one) h.words.0 refl, after_word-append h.begin (32 ∷ hex) h.words.1 refl)
