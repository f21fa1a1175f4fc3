use Rattle.std.proofs.Common.{rules, ◌≡◌, ◌∙◌, refl, ap, sym, subst, false, [], ◌∷◌}
use Rattle.bt_talk.specs.Talks.{is_lost}
use Rattle.bt_remarks.specs.declared.events.Side.{Side}
use Rattle.bt_capture.specs.Arrivals.{arrived}
use Rattle.bt_capture.specs.Connections.{IsOpen}
use Rattle.bt_capture.specs.declared.connection.Connection.{Connection}
use Rattle.bt_talk.specs.declared.rows.Heading.{Heading}
use Rattle.bt_capture.specs.Sending.{HasSent}
use Rattle.bt_capture.specs.Rowed.{HasShown}
use Rattle.bt_capture.proofs.Reported.{begun, stops_of, stops_same}
use Rattle.bt_capture.proofs.connections.Connections.begin.Goals as goal

pub returns-in-Ok-clause-finds : goal.returns-in-Ok-clause-finds
returns-in-Ok-clause-finds c link start now clock came when p es absent i =
    let x = arrived link c.args.segment.now when in
    let Q : Connection → Type 0 = λ k. IsOpen c.args.self.now.terms [] (x ∷ []) k in
    let same : c.in-Ok.connection.value ≡ c.new-connection.result = search rules in
    let R : Connection → Type 0 = λ k. (side : Side) → HasSent side [] c.args.self.now.terms [] (x ∷ []) k in
    let T : Connection → Type 0 = λ k. is_lost k.talk ≡ false in
    let S : Connection → Type 0 = λ k. (h : Heading) → HasShown h [] c.args.self.now.terms [] (x ∷ []) k in
    begun start now came x p c.in-Ok.connection es c.args.self.now _ absent refl refl refl c.saturating_add-self.ensures
    (subst Q (sym same) (c.new-connection.ensures.open link when)) (ap (λ (k : Connection). k.number) same ∙ c.new-connection.ensures.number)
    (subst R (sym same) (λ side. c.new-connection.ensures.sent link when side)) (subst T (sym same) c.new-connection.ensures.there)
    (subst S (sym same) (λ h. c.new-connection.ensures.shown link when h)) i

pub returns-in-Ok-clause-sent : goal.returns-in-Ok-clause-sent
returns-in-Ok-clause-sent c = λ link when side.
    let Q : Connection → Type 0 = λ k. HasSent side [] c.args.self.now.terms [] (arrived link c.args.segment.now when ∷ []) k in
    let same : c.in-Ok.connection.value ≡ c.new-connection.result = search rules in
    subst Q (sym same) (c.new-connection.ensures.sent link when side)

pub returns-clause-finds : goal.returns-clause-finds
returns-clause-finds c link start now clock came when p es absent i =
    stops_same start now came c.args.self.now _ refl refl refl (stops_of start now came es c.args.self.now i)
