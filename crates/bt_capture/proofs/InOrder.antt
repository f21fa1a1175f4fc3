-- Reports are told one by one.
use Rattle.std.proofs.Common.{◌≡◌, ◌∙◌, ℕ, Option, Some, None, is_some, ◌+◌, ◌-◌, ◌^◌, min, true, false, Bool, ◌&&◌, ◌||◌, cond, List, [], ◌∷◌, ◌++◌, length}
use Rattle.std.proofs.Common.{append-nil, append_assoc, refl, sym, ap, subst, arith, inl, inr, if◌then◌else◌}
use Rattle.std.specs.List.{filter, flat_map, list_any}
use Rattle.std.specs.Io.KnownBytes.{Appends}
use Rattle.std.proofs.KnownBytes.{Appends-trans}
use Rattle.std.proofs.lemmas.Bool.{cases_Bool}
use Rattle.std.proofs.lemmas.Grind.{flat_map-append}
use Rattle.std.proofs.lemmas.List.{length-append}
use Rattle.std.proofs.lemmas.List.Elements.{filter-append}
use Rattle.std.proofs.lemmas.List.Folds.{list_any-append}
use Rattle.bt_io.specs.Counts.{counted, Grew}
use Rattle.bt_io.specs.Seen.{TargetSeen, WriteFailed}
use Rattle.bt_report.specs.declared.report.Report.{Report}
use Rattle.bt_capture.specs.declared.telling.Teller.{Teller}
use Rattle.bt_talk.specs.declared.rows.Showing.TheVariants.{Nothing}
use Rattle.bt_talk.specs.Rows.{Shown, shown_texts}
use Rattle.bt_capture.specs.declared.ending.Form.{Form}
use Rattle.bt_capture.specs.Forms.{showing_by, showing_in, is_stream, side_of}
use Rattle.bt_remarks.specs.declared.events.Side.{Side}
use Rattle.bt_capture.specs.Tellings.{Part, OfReport, OfRows, OfBytes, report_of_part, report_by, part_text, AreTexts, text_by, chosen_by, is_chosen}
use Rattle.bt_capture.specs.Tellings.{texts, count_torrents, is_one_partial, is_one_refused, is_refused, is_told, Tells, IsStopped}
use Rattle.bt_report.specs.Findings.{is_partial}

one : (p : Report → Bool) (x : Report) → length (filter p (x ∷ [])) ≡ (if p x then 1 else 0)
one p x = elim (cases_Bool (p x)) [ inl e ↦ rw e refl | inr e ↦ rw e refl ]

more : (b : Bool) (n : ℕ) → min (n + (if b then 1 else 0)) (2 ^ 64 - 1) ≡ counted b (min n (2 ^ 64 - 1))
more true n = omega arith
more false n = omega arith

pub count_more : (reports : List Report) (r : Report) → count_torrents (reports ++ r ∷ []) ≡ counted (is_told r) (count_torrents reports)
count_more reports r =
    let n = length (filter is_told reports) in
    let e : length (filter is_told (reports ++ r ∷ [])) ≡ n + (if is_told r then 1 else 0) =
    ap length (filter-append is_told reports (r ∷ [])) ∙ length-append (filter is_told reports) (filter is_told (r ∷ []))
    ∙ ap (λ (k : ℕ). n + k) (one is_told r) in
    ap (λ (k : ℕ). min k (2 ^ 64 - 1)) e ∙ more (is_told r) n

or_false : (b : Bool) → (b || false) ≡ b
or_false true = refl
or_false false = refl

one_any : (p : Report → Bool) (x : Report) → list_any p (x ∷ []) ≡ p x
one_any p x = elim (cases_Bool (p x)) [ inl e ↦ rw e refl | inr e ↦ rw e refl ]

one_chosen : (b : Bool) (p : Report → Bool) (r : Report) → list_any p (cond b (r ∷ []) []) ≡ (b && p r)
one_chosen true p r = one_any p r
one_chosen false p r = refl

any_more : (form : Form) (p : Report → Bool) (reports : List Report) (r : Report)
    → list_any p (chosen_by form (reports ++ r ∷ [])) ≡ (list_any p (chosen_by form reports) || (is_chosen form.choice r && p r))
any_more form p reports r =
    ap (list_any p) (filter-append (is_chosen form.choice) reports (r ∷ []))
    ∙ list_any-append p (chosen_by form reports) (chosen_by form (r ∷ []))
    ∙ ap (λ (b : Bool). list_any p (chosen_by form reports) || b) (one_chosen (is_chosen form.choice r) p r)

pub refused_more : (form : Form) (reports : List Report) (r : Report)
    → is_one_refused (chosen_by form (reports ++ r ∷ [])) ≡ (is_one_refused (chosen_by form reports) || (is_chosen form.choice r && is_refused r))
refused_more form reports r = any_more form is_refused reports r

pub partial_more : (form : Form) (reports : List Report) (r : Report)
    → is_one_partial (chosen_by form (reports ++ r ∷ [])) ≡ (is_one_partial (chosen_by form reports) || (is_chosen form.choice r && is_partial r))
partial_more form reports r = any_more form is_partial reports r

-- What is said of the chosen reports stays as the form does.
pub any_same : (form form' : Form) (p : Report → Bool) (reports : List Report) (b : Bool) → form' ≡ form → b ≡ list_any p (chosen_by form reports)
    → b ≡ list_any p (chosen_by form' reports)
any_same form form' p reports b e h = h ∙ ap (λ (k : Form). list_any p (chosen_by k reports)) (sym e)

-- ---- the text of reports, and of rows between them

-- One part more.
part_more : (form : Form) (reports : List Report) (text : List ℕ) (x : Part) (i : AreTexts form reports text)
    → AreTexts form (reports ++ report_of_part x) (text ++ part_text form x)
part_more form reports text x i = record {
  parts = i.parts ++ x ∷ [];
  reports_are = flat_map-append report_of_part i.parts (x ∷ []) ∙ ap (λ (l : List Report). flat_map report_of_part i.parts ++ l) (append-nil (report_of_part x))
      ∙ ap (λ (l : List Report). l ++ report_of_part x) i.reports_are;
  is = ap (λ (l : List ℕ). l ++ part_text form x) i.is
      ∙ ap (λ (l : List ℕ). flat_map (part_text form) i.parts ++ l) (sym (append-nil (part_text form x)))
      ∙ sym (flat_map-append (part_text form) i.parts (x ∷ []));
}

texts_same : (form form' : Form) (reports : List Report) (text text' : List ℕ) → form' ≡ form → text' ≡ text → AreTexts form reports text
    → AreTexts form' reports text'
texts_same form form' reports text text' e f i =
    subst (λ (k : Form). AreTexts k reports text') (sym e) (subst (λ (l : List ℕ). AreTexts form reports l) (sym f) i)

pub no_texts : (form : Form) → AreTexts form [] []
no_texts form = record { parts = []; reports_are = refl; is = refl }

nothing_shown : (rows : List Shown) → shown_texts Nothing rows ≡ []
nothing_shown [] = refl
nothing_shown (r ∷ rs) = nothing_shown rs

-- Without rows and a stream there are only reports.
text_if : (b json : Bool) (r : Report) → (if b then text_by json r else []) ≡ texts json (cond b (r ∷ []) [])
text_if true json r = sym (append-nil (text_by json r))
text_if false json r = refl

one_only : (form : Form) (x : Part) → form.show ≡ false → is_stream form ≡ false
    → part_text form x ≡ texts form.json (chosen_by form (report_of_part x))
one_only form (OfReport r) e f =
    ap (λ (b : Bool). if b then [] else if is_chosen form.choice r then text_by form.json r else []) f ∙ text_if (is_chosen form.choice r) form.json r
one_only form (OfRows rows) e f =
    ap (λ (b : Bool). shown_texts (if b then Nothing else showing_in form.show form.json) rows) f
    ∙ ap (λ (b : Bool). shown_texts (showing_in b form.json) rows) e ∙ nothing_shown rows
one_only form (OfBytes bytes) e f = ap (λ (b : Bool). if b then bytes else []) f

parts_only : (form : Form) (parts : List Part) → form.show ≡ false → is_stream form ≡ false
    → flat_map (part_text form) parts ≡ texts form.json (chosen_by form (flat_map report_of_part parts))
parts_only form [] e f = refl
parts_only form (x ∷ xs) e f =
    ap (λ (l : List ℕ). l ++ flat_map (part_text form) xs) (one_only form x e f)
    ∙ ap (λ (l : List ℕ). texts form.json (chosen_by form (report_of_part x)) ++ l) (parts_only form xs e f)
    ∙ sym (flat_map-append (text_by form.json) (chosen_by form (report_of_part x)) (chosen_by form (flat_map report_of_part xs)))
    ∙ ap (texts form.json) (sym (filter-append (is_chosen form.choice) (report_of_part x) (flat_map report_of_part xs)))

pub reports_only : (form : Form) (reports : List Report) (text : List ℕ) → form.show ≡ false → form.stream ≡ None → AreTexts form reports text
    → text ≡ texts form.json (chosen_by form reports)
reports_only form reports text e none i =
    let f : is_stream form ≡ false = ap (λ (s : Option (ℕ × Side)). is_some s) none in i.is ∙ parts_only form i.parts e f
    ∙ ap (λ (l : List Report). texts form.json (chosen_by form l)) i.reports_are

-- If a stream is told there are only its bytes.
abbrev bytes_of_part : Part → List ℕ
bytes_of_part (OfReport r) = []
bytes_of_part (OfRows rows) = []
bytes_of_part (OfBytes bytes) = bytes

one_bytes : (form : Form) (x : Part) → is_stream form ≡ true → part_text form x ≡ bytes_of_part x
one_bytes form (OfReport r) e = ap (λ (b : Bool). if b then [] else if is_chosen form.choice r then text_by form.json r else []) e
one_bytes form (OfRows rows) e =
    ap (λ (b : Bool). shown_texts (if b then Nothing else showing_in form.show form.json) rows) e ∙ nothing_shown rows
one_bytes form (OfBytes bytes) e = ap (λ (b : Bool). if b then bytes else []) e

pub no_rows : (form : Form) (rows : List Shown) → is_stream form ≡ true → shown_texts (showing_by form) rows ≡ []
no_rows form rows e = one_bytes form (OfRows rows) e

-- One more report is told.
pub told_more : (start now : TargetSeen) (old new : Teller) (reports : List Report) (written : List ℕ) (r : Report)
    → new.text.items ≡ old.text.items ++ report_by old.form r → new.form ≡ old.form → new.torrents ≡ counted (is_told r) old.torrents
    → new.is_refused ≡ (old.is_refused || (is_chosen old.form.choice r && is_refused r))
    → new.is_partial ≡ (old.is_partial || (is_chosen old.form.choice r && is_partial r))
    → Tells start now old reports written → Tells start now new (reports ++ r ∷ []) written
told_more start now old new reports written r text form torrents refused partial t =
    let was : List ℕ = written ++ old.text.items in
    let more : List ℕ = report_by old.form r in
    record {
      whole = texts_same old.form new.form (reports ++ r ∷ []) (was ++ more) (written ++ new.text.items) form
          (ap (λ (l : List ℕ). written ++ l) text ∙ sym (append_assoc written old.text.items more)) (part_more old.form reports was (OfReport r) t.whole);
      held = t.held;
      calm = t.calm;
      torrents = torrents ∙ ap (counted (is_told r)) t.torrents ∙ sym (count_more reports r);
      refused = any_same old.form new.form is_refused (reports ++ r ∷ []) new.is_refused form
          (refused ∙ ap (λ (b : Bool). b || (is_chosen old.form.choice r && is_refused r)) t.refused ∙ sym (refused_more old.form reports r));
      partial = any_same old.form new.form is_partial (reports ++ r ∷ []) new.is_partial form
          (partial ∙ ap (λ (b : Bool). b || (is_chosen old.form.choice r && is_partial r)) t.partial ∙ sym (partial_more old.form reports r));
    }

-- Rows are told, or bytes of a stream.
part_told : (start now : TargetSeen) (old new : Teller) (reports : List Report) (written : List ℕ) (x : Part) → report_of_part x ≡ []
    → new.text.items ≡ old.text.items ++ part_text old.form x → new.form ≡ old.form → new.torrents ≡ old.torrents → new.is_refused ≡ old.is_refused
    → new.is_partial ≡ old.is_partial → Tells start now old reports written → Tells start now new reports written
part_told start now old new reports written x none text form torrents refused partial t =
    let was : List ℕ = written ++ old.text.items in
    let more : List ℕ = part_text old.form x in
    let same : reports ++ report_of_part x ≡ reports = ap (λ (l : List Report). reports ++ l) none ∙ append-nil reports in
    record {
      whole = texts_same old.form new.form reports (was ++ more) (written ++ new.text.items) form
          (ap (λ (l : List ℕ). written ++ l) text ∙ sym (append_assoc written old.text.items more))
          (subst (λ (l : List Report). AreTexts old.form l (was ++ more)) same (part_more old.form reports was x t.whole));
      held = t.held;
      calm = t.calm;
      torrents = torrents ∙ t.torrents;
      refused = any_same old.form new.form is_refused reports new.is_refused form (refused ∙ t.refused);
      partial = any_same old.form new.form is_partial reports new.is_partial form (partial ∙ t.partial);
    }

pub shown_more : (start now : TargetSeen) (old new : Teller) (reports : List Report) (written : List ℕ) (rows : List Shown)
    → new.text.items ≡ old.text.items ++ shown_texts (showing_by old.form) rows → new.form ≡ old.form → new.torrents ≡ old.torrents
    → new.is_refused ≡ old.is_refused → new.is_partial ≡ old.is_partial
    → Tells start now old reports written → Tells start now new reports written
shown_more start now old new reports written rows text form torrents refused partial t =
    part_told start now old new reports written (OfRows rows) refl text form torrents refused partial t

pub bytes_more : (start now : TargetSeen) (old new : Teller) (reports : List Report) (written bytes : List ℕ) → is_stream old.form ≡ true
    → new.text.items ≡ old.text.items ++ bytes → new.form ≡ old.form → new.torrents ≡ old.torrents → new.is_refused ≡ old.is_refused
    → new.is_partial ≡ old.is_partial → Tells start now old reports written → Tells start now new reports written
bytes_more start now old new reports written bytes stream text form torrents refused partial t =
    let same : part_text old.form (OfBytes bytes) ≡ bytes = one_bytes old.form (OfBytes bytes) stream in
    part_told start now old new reports written (OfBytes bytes) refl (text ∙ ap (λ (l : List ℕ). old.text.items ++ l) (sym same)) form torrents refused
    partial t

-- of a stream's connection
pub wants_stream : (n : ℕ) (s : Option (ℕ × Side)) → is_some (side_of n s) ≡ true → is_some s ≡ true
wants_stream n None e = cc
wants_stream n (Some s) e = refl

-- The text that was kept is written.
pub all_written : (start now after : TargetSeen) (old new : Teller) (reports : List Report) (written : List ℕ)
    → Appends now.held after.held old.text.items → after.failed ≡ now.failed → new.text.items ≡ [] → new.form ≡ old.form → new.torrents ≡ old.torrents
    → new.is_refused ≡ old.is_refused → new.is_partial ≡ old.is_partial
    → Tells start now old reports written → Tells start after new reports (written ++ old.text.items)
all_written start now after old new reports written held calm empty form torrents refused partial t =
    let all : List ℕ = written ++ old.text.items in
    record {
      whole = texts_same old.form new.form reports all (all ++ new.text.items) form (ap (λ (l : List ℕ). all ++ l) empty ∙ append-nil all) t.whole;
      held = Appends-trans start.held now.held after.held written old.text.items t.held held;
      calm = calm ∙ t.calm;
      torrents = torrents ∙ t.torrents;
      refused = any_same old.form new.form is_refused reports new.is_refused form (refused ∙ t.refused);
      partial = any_same old.form new.form is_partial reports new.is_partial form (partial ∙ t.partial);
    }

-- Only the first part of the text that was kept is written.
pub front_written : (start now after : TargetSeen) (t : Teller) (reports : List Report) (written front rest : List ℕ) → t.text.items ≡ front ++ rest
    → Appends now.held after.held front → WriteFailed now after → Tells start now t reports written
    → IsStopped t.form start after reports (written ++ t.text.items)
front_written start now after teller reports written front rest parts held failed t = record {
  texts_are = t.whole;
  front = (
    written ++ front,
    rest,
    ap (λ (l : List ℕ). written ++ l) parts ∙ sym (append_assoc written front rest),
    Appends-trans start.held now.held after.held written front t.held held,
  );
  failed = subst (λ (n : ℕ). Grew n after.failed) t.calm failed;
}
