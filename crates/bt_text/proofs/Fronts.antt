-- The line in front of a text: one of numbers only, and what is read of any.
use Rattle.std.proofs.Common.{◌≡◌, ℕ, ◌≤◌, false, List, [], ◌∷◌, ◌++◌, length, Option, Some, None, Result, Ok, Err, refl, ap, sym, ◌∙◌}
use Rattle.std.proofs.Common.{arith, append_assoc, Bor, IfSome}
use Rattle.std.specs.Prelude.{codes, IfOk}
use Rattle.std.specs.Fmt.{decimal}
use Rattle.std.proofs.lemmas.List.{append-nil, length-append}
use Rattle.bt_wire.specs.declared.ids.Shape.{Shape}
use Rattle.bt_wire.specs.declared.ids.Shape.TheVariants.{Nothing, Index, Part}
use Rattle.bt_wire.specs.Ids.{Id, ids, row_named}
use Rattle.bt_wire.specs.Messages.{Fields, none, index, part, spell_fields, AreInRange}
use Rattle.bt_wire.specs.Numbers.{be32}
use Rattle.bt_text.specs.Lines.{spaced}
use Rattle.bt_text.specs.Script.{has_feed, script_fields, SaysFields, shape_of, keep_alive, known, framed_by}
use Rattle.bt_text.specs.Fronts.{IsShortLine, AddsBare, AddsIndex, AddsPart}
use Rattle.bt_text.proofs.ScriptBounds.{has_feed-append, fields_have_none, length-spaced, length-two}

-- a row of the table of ids that the line of a message of this shape names
pub record IsShortRow (row : Id) (shape : Shape) : Type 0 where
  pub named : row_named row.name ids ≡ Some row
  pub shaped : row.kind.shape ≡ shape
  pub whole : has_feed row.name ≡ false
  pub short : length row.name ≤ 14

-- the line of its name and of fields
line_of : (row : Id) (shape : Shape) (f : Fields) (text rest old new : List ℕ) → IsShortRow row shape → shape_of f ≡ Some shape → AreInRange f
    → SaysFields (script_fields f) f → length (script_fields f) ≤ 40 → text ≡ (row.name ++ script_fields f) ++ 10 ∷ rest
    → new ≡ old ++ framed_by row.number (spell_fields f) → IsShortLine text rest old new
line_of row shape f text rest old new is shaped range says short parts added =
    let words = script_fields f in
    record {
      line = row.name ++ words;
      cut = (parts, has_feed-append row.name words is.whole (fields_have_none f range));
      short = omega (arith, short, is.short, length-append row.name words);
      added = (
        framed_by row.number (spell_fields f),
        (
          known row f,
          (
            row.name,
            words,
            refl,
            record { named = is.named; shape = shaped ∙ ap (λ (s : Shape). Some s) (sym is.shaped); fields = range },
            says,
          ),
          refl,
        ),
        added,
      );
    }

bare_name : (n f r : List ℕ) → (n ++ f) ++ r ≡ (n ++ []) ++ (f ++ r)
bare_name n f r = append_assoc n f r ∙ ap (λ (x : List ℕ). x ++ (f ++ r)) (sym (append-nil n))

after_name : (n s d f r : List ℕ) → (n ++ s) ++ (d ++ (f ++ r)) ≡ (n ++ (s ++ d)) ++ (f ++ r)
after_name n s d f r = simp append_assoc

three_after_name : (n s a b c f r : List ℕ) → (n ++ s) ++ (a ++ (s ++ (b ++ (s ++ (c ++ (f ++ r)))))) ≡ (n ++ ((s ++ a) ++ ((s ++ b) ++ (s ++ c)))) ++ (f ++ r)
three_after_name n s a b c f r = simp append_assoc

bare_line : (row : Id) (text rest old new : List ℕ) → IsShortRow row Nothing → AddsBare row.number (row.name ++ codes "\n") text rest old new
    → IsShortLine text rest old new
bare_line row text rest old new is h =
    line_of row Nothing none text rest old new is refl tt refl (omega arith) (h.0 ∙ bare_name row.name (codes "\n") rest) h.1

pub bare_taken : {E : Type 0} (row : Id) (text old new : List ℕ) (r : Result (Option (Bor (List ℕ))) E) → IsShortRow row Nothing
    → IfOk r (λ f. IfSome f (λ rest. AddsBare row.number (row.name ++ codes "\n") text rest.now old new))
    → IfOk r (λ f. IfSome f (λ rest. IsShortLine text rest.now old new))
bare_taken row text old new (Err e) is h = tt
bare_taken row text old new (Ok None) is h = tt
bare_taken row text old new (Ok (Some rest)) is h = bare_line row text rest.now old new is h

pub id_taken : {E : Type 0} (row : Id) (text t old new : List ℕ) (r : Result (Option (Bor (List ℕ))) E) → IsShortRow row Nothing
    → text ≡ (row.name ++ codes "\n") ++ t → IfOk r (λ f. IfSome f (λ after. (after.now ≡ t) × (new ≡ old ++ framed_by row.number [])))
    → IfOk r (λ f. IfSome f (λ rest. IsShortLine text rest.now old new))
id_taken row text t old new (Err e) is at h = tt
id_taken row text t old new (Ok None) is at h = tt
id_taken row text t old new (Ok (Some rest)) is at h =
    bare_line row text rest.now old new is (at ∙ ap (λ (x : List ℕ). (row.name ++ codes "\n") ++ x) (sym h.0), h.1)

pub alive_taken : (text rest old new : List ℕ) → text ≡ codes "keep-alive\n" ++ rest → new ≡ old ++ be32 0 → IsShortLine text rest old new
alive_taken text rest old new parts added = record {
  line = codes "keep-alive";
  cut = (parts, refl);
  short = omega arith;
  added = (be32 0, (keep_alive, refl, refl), added);
}

pub index_taken : {E : Type 0} (row : Id) (text t old new : List ℕ) (r : Result (Option (Bor (List ℕ))) E) → IsShortRow row Index
    → text ≡ (row.name ++ codes " ") ++ t → IfOk r (λ f. IfSome f (λ rest. AddsIndex row.number t rest.now old new))
    → IfOk r (λ f. IfSome f (λ rest. IsShortLine text rest.now old new))
index_taken row text t old new (Err e) is at h = tt
index_taken row text t old new (Ok None) is at h = tt
index_taken row text t old new (Ok (Some rest)) is at (n, fits, split, added) =
    let parts : text ≡ (row.name ++ spaced n) ++ 10 ∷ rest.now =
    at ∙ ap (λ (x : List ℕ). (row.name ++ codes " ") ++ x) split ∙ after_name row.name (codes " ") (decimal n) (codes "\n") rest.now in
    line_of row Index (index n) text rest.now old new is refl fits refl (omega (arith, length-spaced n fits)) parts added

pub part_taken : {E : Type 0} (row : Id) (text t old new : List ℕ) (r : Result (Option (Bor (List ℕ))) E) → IsShortRow row Part
    → text ≡ (row.name ++ codes " ") ++ t → IfOk r (λ f. IfSome f (λ rest. AddsPart row.number t rest.now old new))
    → IfOk r (λ f. IfSome f (λ rest. IsShortLine text rest.now old new))
part_taken row text t old new (Err e) is at h = tt
part_taken row text t old new (Ok None) is at h = tt
part_taken row text t old new (Ok (Some rest)) is at (bytes, p, added) =
    let i = p.index in
    let b = p.begin in
    let l = p.length in
    let parts : text ≡ (row.name ++ (spaced i ++ (spaced b ++ spaced l))) ++ 10 ∷ rest.now =
    at ∙ ap (λ (x : List ℕ). (row.name ++ codes " ") ++ x) p.parts
    ∙ three_after_name row.name (codes " ") (decimal i) (decimal b) (decimal l) (codes "\n") rest.now in
    line_of row Part (part i b l) text rest.now old new is refl (p.index_fits, p.begin_fits, p.length_fits) refl
    (omega (arith, length-two i b (spaced l) p.index_fits p.begin_fits, length-spaced l p.length_fits)) parts
    (added ∙ ap (λ (x : List ℕ). old ++ framed_by row.number x) p.spelled)
