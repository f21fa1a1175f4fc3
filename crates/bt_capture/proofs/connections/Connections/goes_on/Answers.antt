use Rattle.std.proofs.Common.{rules, ◌≡◌, Bool, false, true, refl, subst, sym}
use Rattle.std.proofs.lemmas.Result.{err_from_is_err_and}
use Rattle.bt_talk.specs.Pasts.{Past}
use Rattle.bt_talk.specs.Talks.{IsTalk, is_lost}
use Rattle.bt_capture.specs.Arrivals.{Arrival, arrived}
use Rattle.bt_capture.specs.Connections.{Begins, is_opener}
use Rattle.bt_capture.specs.Following.{Before, Coming, since}
use Rattle.bt_capture.specs.declared.connection.Connection.{Connection}
use Rattle.bt_capture.proofs.Parting.{may_before}
use Rattle.bt_capture.proofs.Reported.{follows_coming, held}
use Rattle.bt_capture.proofs.connections.Connections.goes_on.Goals as goal

-- What is known of a connection and the next segment.
abbrev Is : Bool → Arrival → Connection → Type 0
Is opens x c = (is_lost c.talk ≡ false → (a b : Past) → IsTalk a b c.talk → Begins opens x a b c.talk) × (is_lost c.talk ≡ true → opens ≡ is_opener x)

pub returns-clause-finds : goal.returns-clause-finds
returns-clause-finds c link start now clock came p es absent new packet i =
    let x = arrived link c.args.segment.now c.args.when in
    let begins : c.begins_another.result ≡ true = search rules in
    let same : c.deref.result.now ≡ c.args.connection.value = search rules in
    let is = subst (λ k. Is true x k) same (subst (λ b. Is b x c.deref.result.now) begins (c.begins_another.ensures.there link, c.begins_another.ensures.lost)) in
    c.begin.ensures.finds link (since start c.args.from) now clock came c.args.when p es absent
    (c.in_ok-report.ensures.goes (Coming p x) start now clock came p es (Before x) absent
    (may_before clock came p x c.args.connection.value is.0 (λ gone. sym (is.1 gone)) packet) refl (follows_coming (since start c.args.from) now came _ _ p x new i))

pub returns-in_err-report-clause-finds : goal.returns-in_err-report-clause-finds
returns-in_err-report-clause-finds c link start now clock came p es absent new packet i =
    let x = arrived link c.args.segment.now c.args.when in
    let begins : c.begins_another.result ≡ true = search rules in
    let same : c.deref.result.now ≡ c.args.connection.value = search rules in
    let is = subst (λ k. Is true x k) same (subst (λ b. Is b x c.deref.result.now) begins (c.begins_another.ensures.there link, c.begins_another.ensures.lost)) in
    let stop = err_from_is_err_and c.from_residual.result c.from_residual.ensures.1 in
    rw stop.1 (c.in_err-report.ensures.goes (Coming p x) start now clock came p es (Before x) absent
    (may_before clock came p x c.args.connection.value is.0 (λ gone. sym (is.1 gone)) packet) refl (follows_coming (since start c.args.from) now came _ _ p x new i))

pub returns-then-not-begins_another-clause-finds : goal.returns-then-not-begins_another-clause-finds
returns-then-not-begins_another-clause-finds c link start now clock came p es absent new packet i =
    let x = arrived link c.args.segment.now c.args.when in
    let belongs : c.begins_another.result ≡ false = search rules in
    let same : c.deref.result.now ≡ c.args.connection.value = search rules in
    let is = subst (λ k. Is false x k) same (subst (λ b. Is b x c.deref.result.now) belongs (c.begins_another.ensures.there link, c.begins_another.ensures.lost)) in
    held (since start c.args.from) now came x p c.args.connection es c.args.self.now (is.0, λ gone. sym (is.1 gone)) absent (follows_coming (since start c.args.from) now came _ _ p x new i)
