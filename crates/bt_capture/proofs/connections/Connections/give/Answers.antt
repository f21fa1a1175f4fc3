use Rattle.std.proofs.Common.{◌≡◌, ◌∙◌, ℕ, List, [], ◌∷◌, ◌++◌, append-nil, append_assoc, Some, ap, sym, subst}
use Rattle.std.proofs.lemmas.Result.{on_err_weaker}
use Rattle.bt_talk.specs.declared.rows.Heading.{Heading}
use Rattle.bt_talk.specs.declared.rows.Showing.{Showing}
use Rattle.bt_talk.specs.Rooms.{heading_by, rows_in, showing_in, wanted_in}
use Rattle.bt_talk.specs.Rows.{shown_texts}
use Rattle.bt_capture.specs.Arrivals.{arrived}
use Rattle.bt_capture.specs.Forms.{handed, showing_by}
use Rattle.bt_capture.specs.Sending.{HasSent}
use Rattle.bt_capture.specs.Rowed.{HasShown, ShowsOn, heading_of}
use Rattle.bt_capture.specs.Shown.{AreOfSegment, HasRows}
use Rattle.bt_capture.proofs.InOrder.{no_rows}
use Rattle.bt_capture.proofs.Parts.{on_ok}
use Rattle.bt_capture.proofs.Sending.{handed_all}
use Rattle.bt_capture.proofs.connections.Connections.give.Goals as goal

pub returns-clause-sent : goal.returns-clause-sent
returns-clause-sent c link terms taken side sent w h =
    let wanted : wanted_in c.turn_to.new.self ≡ Some side = c.turn_to.ensures.wanted ∙ c.wanted-wanted.ensures ∙ w in
    let P : List ℕ → Type 0 = λ l. HasSent side (sent ++ l) terms (taken ++ arrived link c.args.segment.now c.args.when ∷ []) [] c.take.new.self in
    subst P (sym (handed_all c.args.self.now.teller.form c.args.connection.now.number c.take.new.self.number c.take.new.room side c.take.ensures.number w))
    (c.take.ensures.sent link terms taken side sent wanted h)

pub returns-clause-tells : goal.returns-clause-tells
returns-clause-tells c link terms taken i =
    let form = c.args.self.now.teller.form in
    let showing : showing_in c.turn_to.new.self ≡ showing_by form = ap (λ (h : Heading). h.showing) c.turn_to.ensures.heading ∙ c.showing.ensures in
    c.show.ensures.told (subst (λ (s : Showing). HasRows s c.take.new.room) showing (c.take.ensures.rows link terms taken i c.turn_to.ensures.empty))

pub returns-clause-told : goal.returns-clause-told
returns-clause-told c =
    let form = c.args.self.now.teller.form in
    let room = c.take.new.room in
    let before : List ℕ = c.args.self.now.teller.text.items in
    let more : List ℕ = handed form c.take.new.self.number room in
    let showing : showing_in c.turn_to.new.self ≡ showing_by form = ap (λ (h : Heading). h.showing) c.turn_to.ensures.heading ∙ c.showing.ensures in
    on_ok c.show.result (λ text link terms taken i stream.
    let h = c.take.ensures.rows link terms taken i c.turn_to.ensures.empty in
    let none : (rows_in room).text.items ≡ [] = h.text ∙ ap (λ (s : Showing). shown_texts s h.rows) showing ∙ no_rows form h.rows stream in
    text ∙ ap (λ (l : List ℕ). (before ++ l) ++ more) none ∙ ap (λ (l : List ℕ). l ++ more) (append-nil before)) c.show.ensures.text

pub returns-clause-kept : goal.returns-clause-kept
returns-clause-kept c =
    let form = c.args.self.now.teller.form in
    let showing : showing_in c.turn_to.new.self ≡ showing_by form = ap (λ (h : Heading). h.showing) c.turn_to.ensures.heading ∙ c.showing.ensures in
    on_err_weaker c.show.result (λ kept link terms taken i stream.
    kept stream (subst (λ (s : Showing). HasRows s c.take.new.room) showing (c.take.ensures.rows link terms taken i c.turn_to.ensures.empty)))
    c.show.ensures.kept

pub returns-clause-shows : goal.returns-clause-shows
returns-clause-shows c a b t there =
    let form = c.args.self.now.teller.form in
    let number = c.args.connection.now.number in
    let from = c.args.from in
    let heading : (rows_in c.turn_to.new.self).heading ≡ heading_by (showing_by form) number from =
    c.turn_to.ensures.heading ∙ ap (λ (s : Showing). heading_by s number from) c.showing.ensures in
    let P : Heading → Type 0 = λ h.
    AreOfSegment h c.args.segment.now c.args.when a b c.args.connection.now.talk c.take.new.self.talk (rows_in c.take.new.room) in
    subst P heading (c.take.ensures.shows a b t there c.turn_to.ensures.empty)

pub returns-clause-shown : goal.returns-clause-shown
returns-clause-shown c =
    let form = c.args.self.now.teller.form in
    let number = c.args.connection.now.number in
    let from = c.args.from in
    let room = c.take.new.room in
    let before_text : List ℕ = c.args.self.now.teller.text.items in
    let more : List ℕ = handed form c.take.new.self.number room in
    let showing : showing_in c.turn_to.new.self ≡ showing_by form = ap (λ (h : Heading). h.showing) c.turn_to.ensures.heading ∙ c.showing.ensures in
    let heading : (rows_in c.turn_to.new.self).heading ≡ heading_of form number from =
    c.turn_to.ensures.heading ∙ ap (λ (s : Showing). heading_by s number from) c.showing.ensures in
    on_ok c.show.result (λ text link terms taken before h.
    let x = arrived link c.args.segment.now c.args.when in
    let P : Heading → Type 0 = λ k. HasShown k before terms taken (x ∷ []) c.args.connection.now in
    let w = c.take.ensures.shown link terms taken before c.turn_to.ensures.empty (subst P (sym heading) h) in
    let Q : Heading → Type 0 = λ k. ShowsOn k before w.0 terms taken x c.args.connection.now c.take.new.self in
    let rows : (rows_in room).text.items ≡ shown_texts (showing_by form) w.0 = w.1 ∙ ap (λ (s : Showing). shown_texts s w.0) showing in (
      w.0,
      subst Q heading w.2,
      text ∙ ap (λ (l : List ℕ). (before_text ++ l) ++ more) rows ∙ append_assoc before_text (shown_texts (showing_by form) w.0) more,
    )) c.show.ensures.text
