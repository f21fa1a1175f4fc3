use Rattle.std.proofs.Common.{rules, arith, ◌≡◌, ◌∙◌, ◌≤◌, Some, true, refl, sym, ap, subst, List, [], ◌∷◌, ◌++◌}
use Rattle.std.proofs.lemmas.Result.{err_from_is_err_and}
use Rattle.std.proofs.lemmas.List.Elements.{All-push, Contains-push}
use Rattle.bt_remarks.specs.declared.events.Side.{Side}
use Rattle.bt_capture.specs.Arrivals.{Arrival, arrived, with_packet}
use Rattle.bt_capture.specs.Connections.{IsOpen}
use Rattle.bt_capture.specs.Following.{told_by, since}
use Rattle.bt_talk.specs.Rows.{Shown, shown_texts}
use Rattle.bt_capture.specs.Pairs.{with_link}
use Rattle.bt_capture.specs.Forms.{handed, is_stream, showing_by, wanted_by}
use Rattle.bt_capture.specs.Sending.{HasSent}
use Rattle.bt_capture.specs.Rowed.{HasShown, ShowsOn, heading_of}
use Rattle.bt_capture.specs.Tables.{Held}
use Rattle.bt_capture.specs.declared.connection.Connection.{Connection}
use Rattle.bt_capture.specs.declared.connections.Connections.{Connections}
use Rattle.bt_capture.specs.declared.pair.Pair.{Pair}
use Rattle.bt_capture.proofs.Reported.{follows_took, stops_more}
use Rattle.bt_capture.proofs.Steps.{follows_later, follows_table, holds_stop, stops_later}
use Rattle.bt_capture.proofs.Sending.{handed_none}
use Rattle.bt_capture.proofs.connections.Connections.take_segment.Goals as goal

pub returns-clause-goes : goal.returns-clause-goes
returns-clause-goes c start now clock came new packet within i =
    let x = arrived c.args.link c.args.segment.now c.args.when in
    let run = c.connection_of.new.self in
    let es : List (Pair × Held) = run.table in
    let given = c.in_ok-connection.connection.value in
    let after = c.give.new.connection in
    let was : c.deref_mut.result.now ≡ given = search rules in
    let h = c.in_ok-connection.ensures.finds c.args.link start now clock came new packet i in
    let rest = c.give.ensures.rest in
    let form = run.teller.form in
    let told = told_by h.written run in
    let more = handed form after.number c.give.new.self.room in
    let number : after.number ≡ given.number = c.give.ensures.number ∙ ap (λ (k : Connection). k.number) was in
    let O : Connection → Type 0 = λ k. IsOpen run.terms h.taken (x ∷ []) k in
    let taking = subst O (sym was) h.is in
    let tells = c.give.ensures.tells c.args.link run.terms h.taken taking in
    let text : is_stream form ≡ true → c.give.new.self.teller.text.items ≡ run.teller.text.items ++ more = c.in_ok-give.ensures.told c.args.link run.terms h.taken taking in
    let T : Connection → Type 0 = λ k. (side : Side) → wanted_by form k.number ≡ Some side → HasSent side told run.terms h.taken (x ∷ []) k
    → HasSent side (told ++ more) run.terms (h.taken ++ x ∷ []) [] after in
    let sends = subst T was (λ side. c.give.ensures.sent c.args.link run.terms h.taken side told) in
    let from = c.args.from in
    let S : Connection → Type 0 = λ k. (before : List Shown) → HasShown (heading_of form k.number from) before run.terms h.taken (x ∷ []) k
    → (rows : List Shown) × ShowsOn (heading_of form k.number from) before rows run.terms h.taken x k after
    × (c.give.new.self.teller.text.items ≡ run.teller.text.items ++ (shown_texts (showing_by form) rows ++ more)) in
    let shows = subst S was (c.in_ok-give.ensures.shown c.args.link run.terms h.taken) in
    let w = c.args.when in
    c.put.ensures.goes start now (with_packet w clock) (came ++ x ∷ []) (Contains-push clock.packets w) packet
    (All-push (λ (y : Arrival). y.when.packet ≤ w.packet) came x within (omega arith))
    (follows_later (since start c.args.from) now clock (with_packet w clock) (w ∷ []) (came ++ x ∷ []) _ _ refl (omega arith)
    (follows_table (since start c.args.from) now (came ++ x ∷ []) _ _ es _ _ (ap (λ (k : Connections). k.table) rest)
    (follows_took (since start c.args.from) now came x c.with_link-pair.result c.in_ok-connection.connection _ es run c.give.new.self (sym (c.with_link-pair.ensures ∙ ap (with_link c.args.link) c.of.ensures.key)) (ap (λ (k : Connections). k.terms) rest)
    (ap (λ (k : Connections). k.lost) rest) (ap (λ (k : Connections). k.begun) rest) c.give.ensures.form tells number h
    (c.give.ensures.takes c.args.link run.terms h.taken taking) more text (λ w. handed_none form after.number c.give.new.self.room (ap (λ n. wanted_by form n) number ∙ w))
    sends shows packet)))

pub returns-in_err-give-clause-goes : goal.returns-in_err-give-clause-goes
returns-in_err-give-clause-goes c start now clock came new packet within i =
    let x = arrived c.args.link c.args.segment.now c.args.when in
    let run = c.connection_of.new.self in
    let es : List (Pair × Held) = run.table in
    let was : c.deref_mut.result.now ≡ c.in_ok-connection.connection.value = search rules in
    let h = c.in_ok-connection.ensures.finds c.args.link start now clock came new packet i in
    let rest = c.give.ensures.rest in
    let O : Connection → Type 0 = λ k. IsOpen run.terms h.taken (x ∷ []) k in
    let taking = subst O (sym was) h.is in
    let w = c.args.when in
    let stop = err_from_is_err_and c.from_residual-in_err-give.result c.from_residual-in_err-give.ensures.1 in
    rw stop.1 (stops_later (since start c.args.from) now clock (with_packet w clock) (w ∷ []) (came ++ x ∷ []) _ refl
    (holds_stop (since start c.args.from) now came x c.with_link-pair.result c.in_ok-connection.connection es run c.give.new.self (sym (c.with_link-pair.ensures ∙ ap (with_link c.args.link) c.of.ensures.key)) (ap (λ (k : Connections). k.terms) rest)
    (ap (λ (k : Connections). k.lost) rest) c.give.ensures.form (c.give.ensures.tells c.args.link run.terms h.taken taking)
    (c.in_err-give.ensures.kept c.args.link run.terms h.taken taking) h))

pub returns-in_err-connection-clause-goes : goal.returns-in_err-connection-clause-goes
returns-in_err-connection-clause-goes c start now clock came new packet within i =
    let w = c.args.when in
    let x = arrived c.args.link c.args.segment.now w in
    let stop = err_from_is_err_and c.from_residual.result c.from_residual.ensures.1 in
    rw stop.1 (stops_later (since start c.args.from) now clock (with_packet w clock) (w ∷ []) (came ++ x ∷ []) _ refl
    (stops_more (since start c.args.from) now came (x ∷ []) _ (c.in_err-connection.ensures.finds c.args.link start now clock came new packet i)))
