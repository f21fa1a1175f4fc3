use Rattle.std.proofs.Common.{◌≡◌, ◌∙◌, ◌⊎◌, ℕ, true, List, [], ◌++◌, append-nil, append_assoc, inl, inr, ap, sym, subst}
use Rattle.bt_talk.specs.declared.rows.Heading.{Heading}
use Rattle.bt_talk.specs.Inside.{AreEndRows}
use Rattle.bt_talk.specs.Rooms.{rows_in}
use Rattle.bt_talk.specs.Rows.{shown_texts}
use Rattle.bt_capture.specs.Forms.{handed, is_stream, showing_by}
use Rattle.bt_capture.specs.Shown.{HasRows}
use Rattle.bt_capture.specs.Tellings.{TellsOn, report_by}
use Rattle.bt_capture.proofs.InOrder.{no_rows}
use Rattle.bt_capture.proofs.Shown.{has_more, on_err, texts_more}
use Rattle.bt_capture.specs.declared.ending.Form.{Form}
use Rattle.bt_capture.specs.declared.telling.Teller.{Teller}
use Rattle.bt_talk.specs.declared.room.Room.{Room}
use Rattle.bt_capture.proofs.telling.Teller.report.Goals as goal

in_form : (old new : Form) (room : Room) → new ≡ old → HasRows (showing_by old) room → HasRows (showing_by new) room
in_form old new room same rows = subst (λ f. HasRows (showing_by f) room) (sym same) rows

-- The bytes that the room has were told, or none was.
abbrev IsPart : Teller → Teller → ℕ → Room → Type 0
IsPart t t' number room = is_stream t.form ≡ true → HasRows (showing_by t.form) room
    → (t'.text.items ≡ t.text.items) ⊎ (t'.text.items ≡ t.text.items ++ handed t.form number room)

pub returns-clause-told : goal.returns-clause-told
returns-clause-told c = λ h head.
    let g = c.in_ok-show_gaps.ensures.ends in
    let old = c.args.self.now in
    let form = old.form in
    let rows = has_more (showing_by form) c.args.room.now c.show_gaps.new.room g.0 g.1 h in
    let r = c.in_ok-report_on.ensures.told in
    let all : List ℕ = shown_texts (showing_by form) (h.rows ++ g.0) in
    let text : (rows_in c.show_gaps.new.room).text.items ≡ all =
    texts_more (showing_by form) c.args.room.now c.show_gaps.new.room h.rows g.0 h.showing_is h.text g.1 in
    let bytes : List ℕ = handed form c.args.number c.args.room.now in
    let same : c.show_rows.new.self.form ≡ form = c.show_rows.ensures.form ∙ c.hand_out.ensures.form in
    let last : List ℕ = report_by form r.0 in
    let shown : c.show_rows.new.self.text.items ≡ (old.text.items ++ bytes) ++ all =
    c.in_ok-show_rows.ensures.text ∙ ap (λ (l : List ℕ). c.hand_out.new.self.text.items ++ l) text
    ∙ ap (λ (l : List ℕ). l ++ all) c.in_ok-hand_out.ensures.text in (
      r.0,
      r.1,
      λ start now reports written t. r.2 start now reports written
          (c.show_rows.ensures.told (in_form _ _ _ c.hand_out.ensures.form rows) start now reports written
          (c.hand_out.ensures.told start now reports written t)),
      g.0,
      λ a b t. subst (λ (k : Heading). AreEndRows k a b c.args.talk.now g.0) head (g.2 a b t),
      r.3 ∙ ap (λ (k : Form). c.show_rows.new.self.text.items ++ report_by k r.0) same ∙ ap (λ (l : List ℕ). l ++ last) shown
          ∙ append_assoc (old.text.items ++ bytes) all last ∙ append_assoc old.text.items bytes (all ++ last)
          ∙ ap (λ (l : List ℕ). old.text.items ++ l) (sym (append_assoc bytes all last)),
    )

pub returns-in_err-show_rows-clause-same : goal.returns-in_err-show_rows-clause-same
returns-in_err-show_rows-clause-same c =
    on_err {P = HasRows (showing_by c.args.self.now.form) c.args.room.now → TellsOn c.args.self.now c.show_rows.new.self}
    c.from_residual-in_err-show_rows.result (λ h start now reports written t.
    let g = c.in_ok-show_gaps.ensures.ends in
    let rows = has_more (showing_by c.args.self.now.form) c.args.room.now c.show_gaps.new.room g.0 g.1 h in
    c.show_rows.ensures.told (in_form _ _ _ c.hand_out.ensures.form rows) start now reports written (c.hand_out.ensures.told start now reports written t))

pub returns-in_err-report_on-clause-same : goal.returns-in_err-report_on-clause-same
returns-in_err-report_on-clause-same c =
    on_err {P = HasRows (showing_by c.args.self.now.form) c.args.room.now → TellsOn c.args.self.now c.report_on.new.self}
    c.from_residual-in_err-report_on.result (λ h start now reports written t.
    let g = c.in_ok-show_gaps.ensures.ends in
    let rows = has_more (showing_by c.args.self.now.form) c.args.room.now c.show_gaps.new.room g.0 g.1 h in
    c.in_err-report_on.ensures.same start now reports written
    (c.show_rows.ensures.told (in_form _ _ _ c.hand_out.ensures.form rows) start now reports written (c.hand_out.ensures.told start now reports written t)))

pub returns-clause-text : goal.returns-clause-text
returns-clause-text c = λ stream h.
    let form = c.args.self.now.form in
    let g = c.in_ok-show_gaps.ensures.ends in
    let rows = has_more (showing_by form) c.args.room.now c.show_gaps.new.room g.0 g.1 h in
    let none : (rows_in c.show_gaps.new.room).text.items ≡ [] = rows.text ∙ no_rows form rows.rows stream in
    let handed : List ℕ = c.hand_out.new.self.text.items in
    c.in_ok-report_on.ensures.text (ap (λ k. is_stream k) (c.show_rows.ensures.form ∙ c.hand_out.ensures.form) ∙ stream) ∙ c.in_ok-show_rows.ensures.text
    ∙ ap (λ (l : List ℕ). handed ++ l) none ∙ append-nil handed ∙ c.in_ok-hand_out.ensures.text

pub returns-in_err-hand_out-clause-part : goal.returns-in_err-hand_out-clause-part
returns-in_err-hand_out-clause-part c =
    on_err {P = IsPart c.args.self.now c.hand_out.new.self c.args.number c.args.room.now} c.from_residual.result
    (λ stream h. inl c.in_err-hand_out.ensures.kept)

pub returns-in_err-show_gaps-clause-part : goal.returns-in_err-show_gaps-clause-part
returns-in_err-show_gaps-clause-part c =
    on_err {P = IsPart c.args.self.now c.hand_out.new.self c.args.number c.args.room.now} c.from_residual-in_err-show_gaps.result
    (λ stream h. inr c.in_ok-hand_out.ensures.text)

pub returns-in_err-show_rows-clause-part : goal.returns-in_err-show_rows-clause-part
returns-in_err-show_rows-clause-part c =
    on_err {P = IsPart c.args.self.now c.show_rows.new.self c.args.number c.args.room.now} c.from_residual-in_err-show_rows.result
    (λ stream h. inr (c.in_err-show_rows.ensures.kept ∙ c.in_ok-hand_out.ensures.text))

pub returns-in_err-report_on-clause-part : goal.returns-in_err-report_on-clause-part
returns-in_err-report_on-clause-part c =
    on_err {P = IsPart c.args.self.now c.report_on.new.self c.args.number c.args.room.now} c.from_residual-in_err-report_on.result (λ stream h.
    let form = c.args.self.now.form in
    let g = c.in_ok-show_gaps.ensures.ends in
    let rows = has_more (showing_by form) c.args.room.now c.show_gaps.new.room g.0 g.1 h in
    let none : (rows_in c.show_gaps.new.room).text.items ≡ [] = rows.text ∙ no_rows form rows.rows stream in
    let before : List ℕ = c.hand_out.new.self.text.items in
    inr (c.in_err-report_on.ensures.kept ∙ c.in_ok-show_rows.ensures.text ∙ ap (λ (l : List ℕ). before ++ l) none ∙ append-nil before
    ∙ c.in_ok-hand_out.ensures.text))
