use Rattle.std.proofs.Common.{rules, ◌≡◌, ◌∙◌, ℕ, List, [], ◌++◌, append-nil, Bool, Option, Some, is_some, inl, inr, refl}
use Rattle.std.proofs.Common.{sym, ap, subst, true, false, not, ◌&&◌, OnOk}
use Rattle.bt_talk.specs.declared.rows.Heading.{Heading}
use Rattle.bt_talk.specs.declared.rows.Showing.{Showing}
use Rattle.bt_talk.specs.Pasts.{Past}
use Rattle.bt_remarks.specs.declared.events.Side.{Side}
use Rattle.bt_talk.specs.Rooms.{rows_in, sent_in, showing_in, wanted_in}
use Rattle.bt_talk.specs.Sent.{IsSent, SendsOn}
use Rattle.bt_talk.specs.Rows.{shown_texts}
use Rattle.bt_talk.specs.Shown.{AreTurnRows, Turn}
use Rattle.bt_talk.specs.Talks.{HasHeard, IsTalk, is_in_opening, is_lost, of_side}
use Rattle.bt_talk.specs.declared.talk.Talk.{Talk}
use Rattle.bt_capture.specs.Following.{IsEnded, with_over, since}
use Rattle.bt_report.specs.declared.report.Left.{Left}
use Rattle.bt_capture.specs.declared.connection.Connection.{Connection}
use Rattle.bt_capture.specs.declared.connections.Losses.{Losses}
use Rattle.bt_capture.specs.declared.connections.Over.{Over}
use Rattle.bt_capture.specs.Forms.{handed, is_stream, showing_by, wanted_by}
use Rattle.bt_capture.specs.Rowed.{heading_of}
use Rattle.bt_capture.specs.Shown.{HasRows}
use Rattle.bt_capture.proofs.InOrder.{wants_stream}
use Rattle.bt_capture.proofs.Parts.{on_ok}
use Rattle.bt_capture.proofs.Sending.{handed_all, handed_none}
use Rattle.bt_capture.proofs.Shown.{has_first}
use Rattle.bt_capture.specs.Tellings.{SaysAfter}
use Rattle.bt_capture.proofs.Reported.{silent, lost_one, not_lost, reported}
use Rattle.bt_capture.proofs.Taking.{has_some, silent_is}
use Rattle.bt_capture.proofs.Turns.{ShowsTurns, ends_on}
use Rattle.bt_capture.proofs.connections.Connections.report.Goals as goal

pub returns-then-is_silent-clause-goes : goal.returns-then-is_silent-clause-goes
returns-then-is_silent-clause-goes c ph start now clock came p es cause absent may over i =
    let connection = c.args.connection.value in
    let both = silent_is connection.has_payload (is_lost connection.talk) (search rules) in
    silent (since start c.args.from) now came p c.args.connection es c.args.self.now _ cause may absent both.0 both.1 refl refl refl
    (c.with-self.ensures ∙ ap (λ (o : Over). with_over o c.args.self.now.lost) over) i

pub returns-in-Ok-clause-goes : goal.returns-in-Ok-clause-goes
returns-in-Ok-clause-goes c ph start now clock came p es cause absent may over i =
    let silent_not : (not c.args.connection.value.has_payload && not (is_lost c.args.connection.value.talk)) ≡ false = search rules in
    let old : c.deref_mut.result.now ≡ c.args.connection.value = search rules in
    let new : c.deref-in-Ok.result.now.talk ≡ c.end_opening.new.self = search rules in
    let talk = c.end_opening.new.self in
    let rows = rows_in c.turn_to.new.self in
    let rows' = rows_in c.end_opening.new.room in
    let Q : Connection → Type 0 = λ x. (a b : Past) (turns : List Turn) → IsTalk a b x.talk → HasHeard turns a b x.talk
    → (now : List Turn) × IsEnded a b x.talk talk turns now × ShowsTurns rows rows' turns now in
    let ends : Q c.deref_mut.result.now = λ a b turns t heard.
    let e = ends_on a b c.deref_mut.result.now.talk talk rows rows' turns c.in-Ok.ensures.over (c.in-Ok.ensures.opened a b t) c.in-Ok.ensures.open_already
    c.in-Ok.ensures.watch c.in-Ok.ensures.directions heard in (
      e.0,
      record {
        is = c.in-Ok.ensures.kept a b t;
        flows = c.in-Ok.ensures.flows;
        ends = c.in-Ok.ensures.ends;
        terms = c.in-Ok.ensures.terms;
        closing = c.in-Ok.ensures.closing;
        cuts = λ side. c.in-Ok.ensures.cuts a b side t;
        began = c.in-Ok.ensures.began;
        grown = c.in-Ok.ensures.grown;
        over = c.in-Ok.ensures.over;
        heard = e.1;
        opened = e.2;
        after = e.3;
      },
      e.4,
    ) in
    let ended = subst Q old ends in
    let there : is_lost c.deref_mut.result.now.talk ≡ false = not_lost _ _ _ c.in-Ok.ensures.stays in
    let is_there : is_lost c.args.connection.value.talk ≡ false = subst (λ (x : Connection). is_lost x.talk ≡ false) old there in
    let some = has_some c.args.connection.value.has_payload (is_lost c.args.connection.value.talk) silent_not is_there in
    let showing = showing_by c.args.self.now.teller.form in
    let P : Type 0 = HasRows showing c.end_opening.new.room in
    let Z : Connection → Type 0 = λ x. (a b : Past) → IsTalk a b x.talk → P in
    let shown : Z c.deref_mut.result.now = λ a b t.
    let rows = c.in-Ok.ensures.rows a b t in
    subst (λ (s : Showing). HasRows s c.end_opening.new.room) (ap (λ (h : Heading). h.showing) c.turn_to.ensures.heading ∙ c.showing.ensures)
    (has_first c.turn_to.new.self c.end_opening.new.room rows.0 c.turn_to.ensures.empty rows.1) in
    let form = c.args.self.now.teller.form in
    let connection = c.args.connection.value in
    let number = c.deref-in-Ok-2.result.now.number in
    let room = c.end_opening.new.room in
    let same : number ≡ connection.number = search rules in
    let start_is = c.args.from in
    let more : List ℕ = handed form number room in
    let IsHeaded : ℕ → ℕ → Type 0 = λ n from. (rows_in room).heading ≡ heading_of form n from in
    let R : Talk → Type 0 = λ t.
    OnOk c.report-told.result ((h : P) → IsHeaded number start_is
    → SaysAfter c.args.self.now.teller c.report-told.new.self number start_is c.left.result t more h.rows) in
    let T : ℕ → Type 0 = λ n.
    OnOk c.report-told.result ((h : P) → IsHeaded n start_is
    → SaysAfter c.args.self.now.teller c.report-told.new.self n start_is c.left.result talk more h.rows) in
    let L : Left → Type 0 = λ l.
    OnOk c.report-told.result ((h : P) → IsHeaded connection.number start_is
    → SaysAfter c.args.self.now.teller c.report-told.new.self connection.number start_is l talk more h.rows) in
    let says = subst L c.left.ensures (subst T same (subst R new c.report-told.ensures.told)) in
    let heading : (rows_in c.turn_to.new.self).heading ≡ heading_of form connection.number start_is = search rules in
    let showing_is : showing_in c.turn_to.new.self ≡ showing = ap (λ (h : Heading). h.showing) c.turn_to.ensures.heading ∙ c.showing.ensures in
    let reports = on_ok c.report-told.result (λ says a b turns before t heard sh.
    let e = ended a b turns t heard in
    let w = e.2 before (subst (λ (h : Heading). AreTurnRows h turns before) (sym heading) sh) in
    let text : (rows_in room).text.items ≡ shown_texts showing w.0 =
    w.1.text ∙ ap (λ (l : List ℕ). l ++ shown_texts (showing_in c.turn_to.new.self) w.0) c.turn_to.ensures.empty
    ∙ ap (λ (s : Showing). shown_texts s w.0) showing_is in
    let h : P = record { showing_is = ap (λ (k : Heading). k.showing) w.1.heading ∙ showing_is; rows = w.0; text = text } in
    (e.0, e.1, (w.0, subst (λ (k : Heading). AreTurnRows k e.0 (before ++ w.0)) heading w.2, says h (w.1.heading ∙ heading)))) says in
    let U : Connection → Type 0 = λ x. (a b : Past) (side : Side) → IsTalk a b x.talk → wanted_in c.turn_to.new.self ≡ Some side
    → SendsOn (is_in_opening x.talk) (of_side side a b) (is_in_opening talk) (of_side side a b) (sent_in room) in
    let sends = subst U old c.in-Ok.ensures.sent in
    let wanted : wanted_in c.turn_to.new.self ≡ wanted_by form connection.number = search rules in
    reported c.report-told.result (since start c.args.from) now came p c.args.connection es c.args.self.now _ cause c.args.over may over absent some refl
    c.with_told-self.ensures.some c.with_told-self.ensures.none c.report-told.ensures.form refl
    is_there talk (λ a b turns t heard. let e = ended a b turns t heard in (e.0, e.1)) P (subst Z old shown)
    c.report-told.ensures.same more
    c.report-told.ensures.text c.report-told.ensures.part (λ w. handed_none form number room (ap (λ n. wanted_by form n) same ∙ w))
    (λ a b side before t w sent.
    let all : handed form number room ≡ sent_in room = handed_all form connection.number number room side same w in
    let V : List ℕ → Type 0 = λ l. IsSent false (of_side side a b) (before ++ l) in
    let W : Bool → Type 0 = λ o. IsSent o (of_side side a b) (before ++ sent_in room) in
    subst V (sym all) (subst W c.in-Ok.ensures.over (sends a b side t (wanted ∙ w) before sent)))
    reports i

pub returns-clause-goes : goal.returns-clause-goes
returns-clause-goes c ph start now clock came p es cause absent may over i =
    let with : ℕ → Losses = λ n. record c.args.self.now.lost { memory = n } in
    lost_one (since start c.args.from) now came p c.args.connection es c.args.self.now _ cause may absent refl refl (ap with c.saturating_add-self.ensures) refl i

pub returns-then-is_silent-clause-sent : goal.returns-then-is_silent-clause-sent
returns-then-is_silent-clause-sent c terms taken side sent some =
    let connection = c.args.connection.value in
    let none = (silent_is connection.has_payload (is_lost connection.talk) (search rules)).0 in
    cc

pub returns-clause-sent : goal.returns-clause-sent
returns-clause-sent c terms taken side sent some w h = record {
  more = [];
  text = sym (append-nil c.args.self.now.teller.text.items);
  whole = inl (c.saturating_add-self.ensures, refl, h.early);
}

pub returns-in-Ok-clause-sent : goal.returns-in-Ok-clause-sent
returns-in-Ok-clause-sent c =
    let form = c.args.self.now.teller.form in
    let room = c.end_opening.new.room in
    let talk = c.end_opening.new.self in
    let connection = c.args.connection.value in
    let number = c.deref-in-Ok-2.result.now.number in
    let old : c.deref_mut.result.now ≡ connection = search rules in
    let same : number ≡ connection.number = search rules in
    let showing : showing_in c.turn_to.new.self ≡ showing_by form = ap (λ (h : Heading). h.showing) c.turn_to.ensures.heading ∙ c.showing.ensures in
    let Z : Connection → Type 0 = λ x. (a b : Past) → IsTalk a b x.talk → HasRows (showing_by form) room in
    let shown : Z c.deref_mut.result.now = λ a b t.
    let rows = c.in-Ok.ensures.rows a b t in
    subst (λ (s : Showing). HasRows s room) showing (has_first c.turn_to.new.self room rows.0 c.turn_to.ensures.empty rows.1) in
    let S : Connection → Type 0 = λ x. (a b : Past) (side : Side) → IsTalk a b x.talk → wanted_in c.turn_to.new.self ≡ Some side
    → SendsOn (is_in_opening x.talk) (of_side side a b) (is_in_opening talk) (of_side side a b) (sent_in room) in
    let sends = subst S old c.in-Ok.ensures.sent in
    let wanted : wanted_in c.turn_to.new.self ≡ wanted_by form connection.number = search rules in
    let there : is_lost c.deref_mut.result.now.talk ≡ false = not_lost _ _ _ c.in-Ok.ensures.stays in
    on_ok c.report-told.result (λ text terms taken side sent some w h.
    let g = h.all (subst (λ (x : Connection). is_lost x.talk ≡ false) old there) in
    let stream : is_stream form ≡ true = wants_stream connection.number form.stream (ap (λ (o : Option Side). is_some o) w) in
    let all : handed form number room ≡ sent_in room = handed_all form connection.number number room side same w in
    let P : List ℕ → Type 0 = λ l. IsSent false (of_side side g.0.a g.0.b) (sent ++ l) in
    let Q : Bool → Type 0 = λ o. IsSent o (of_side side g.0.a g.0.b) (sent ++ sent_in room) in
    record {
      more = handed form number room;
      text = text stream (subst Z old shown g.0.a g.0.b g.0.made.is);
      whole = inr (g.0, subst P (sym all) (subst Q c.in-Ok.ensures.over (sends g.0.a g.0.b side g.0.made.is (wanted ∙ w) sent g.1)));
    }) c.report-told.ensures.text

pub returns-in-Ok-clause-others : goal.returns-in-Ok-clause-others
returns-in-Ok-clause-others c =
    let form = c.args.self.now.teller.form in
    let room = c.end_opening.new.room in
    let connection = c.args.connection.value in
    let number = c.deref-in-Ok-2.result.now.number in
    let old : c.deref_mut.result.now ≡ connection = search rules in
    let same : number ≡ connection.number = search rules in
    let showing : showing_in c.turn_to.new.self ≡ showing_by form = ap (λ (h : Heading). h.showing) c.turn_to.ensures.heading ∙ c.showing.ensures in
    let Z : Connection → Type 0 = λ x. (a b : Past) → IsTalk a b x.talk → HasRows (showing_by form) room in
    let shown : Z c.deref_mut.result.now = λ a b t.
    let rows = c.in-Ok.ensures.rows a b t in
    subst (λ (s : Showing). HasRows s room) showing (has_first c.turn_to.new.self room rows.0 c.turn_to.ensures.empty rows.1) in
    let there : is_lost c.deref_mut.result.now.talk ≡ false = not_lost _ _ _ c.in-Ok.ensures.stays in
    on_ok c.report-told.result (λ text stream w terms taken i.
    let m = i.made (subst (λ (x : Connection). is_lost x.talk ≡ false) old there) in
    let before : List ℕ = c.args.self.now.teller.text.items in
    text stream (subst Z old shown m.a m.b m.made.is)
    ∙ ap (λ (l : List ℕ). before ++ l) (handed_none form number room (ap (λ n. wanted_by form n) same ∙ w)) ∙ append-nil before) c.report-told.ensures.text
