use Rattle.std.proofs.Common.{rules, ◌≡◌, refl, sym, subst, List, [], ◌∷◌, ◌++◌, ◌∙◌, ◌+◌, ap, arith, length}
use Rattle.std.proofs.lemmas.List.{length-append}
use Rattle.std.specs.List.Sorted.{IsPermutation}
use Rattle.std.proofs.lemmas.List.Sorted.{IsPermutation-append_comm}
use Rattle.bt_talk.specs.Talks.{closing_of, is_lost}
use Rattle.bt_capture.specs.Following.{Cause, During, Follows, Goes, given_up_by, over_for, since}
use Rattle.bt_capture.specs.declared.connection.Connection.{Connection}
use Rattle.bt_capture.specs.Tables.{Held, IsApart}
use Rattle.bt_capture.specs.declared.pair.Pair.{Pair}
use Rattle.bt_capture.proofs.Entries.{apart_moved, apart_first}
use Rattle.bt_capture.proofs.Parting.{may_given_up}
use Rattle.bt_capture.proofs.Reported.{follows_same}
use Rattle.bt_capture.proofs.Steps.{follows_moved}
use Rattle.bt_capture.proofs.connections.Connections.end_oldest.Goals as goal

pub returns-in-Some-clause-goes : goal.returns-in-Some-clause-goes
returns-in-Some-clause-goes c start now clock came there packet within i =
    let at = c.args.when in
    let es : List (Pair × Held) = c.args.self.now.table in
    let left : List (Pair × Held) = c.take_oldest.new.self in
    let e : Pair × Held = (c.in-Some.field-0-0, c.in-Some.oldest) in
    let same_talk : c.deref-in-Some.result.now ≡ c.in-Some.oldest.value = search rules in
    let cause : Connection → Cause = λ k. given_up_by (is_lost k.talk) (closing_of k.talk).over at in
    let is_over : Connection → Type 0 = λ k. c.left_given_up-over.result ≡ over_for (cause k) in
    let is : es ≡ left ++ e ∷ [] = search rules in
    let apart : IsApart (left ++ e ∷ []) = subst (λ l. IsApart l) is c.take_oldest.ensures.apart in
    let move : IsPermutation (left ++ e ∷ []) (e ∷ left) = IsPermutation-append_comm left (e ∷ []) in
    let absent = apart_first e left (apart_moved (left ++ e ∷ []) (e ∷ left) move apart) in
    let was = subst (λ l. Follows (since start c.args.from) now clock came l c.args.self.now) is i in
    let same = follows_moved (since start c.args.from) now came (left ++ e ∷ []) (e ∷ left) c.args.self.now move was in
    subst (λ l. Goes (since start c.args.from) now clock came l c.report.new.self c.report.result) (sym c.report.ensures.table)
    (c.report.ensures.goes During start now clock came e.0 left (cause c.in-Some.oldest.value) absent
    (may_given_up clock came e.0 at c.in-Some.oldest.value there packet within) (subst is_over same_talk c.left_given_up-over.ensures)
    (follows_same (since start c.args.from) now came (e ∷ left) c.args.self.now _ refl refl refl refl same))

pub returns-in-Some-clause-shorter : goal.returns-in-Some-clause-shorter
returns-in-Some-clause-shorter c some =
    let left : List (Pair × Held) = c.take_oldest.new.self in
    let e : Pair × Held = (c.in-Some.field-0-0, c.in-Some.oldest) in
    let more : length c.args.self.now.table ≡ length left + 1 = ap length c.in-Some.ensures.oldest ∙ length-append left (e ∷ []) in
    let same : length c.report.new.self.table ≡ length left = ap length c.report.ensures.table in
    omega (arith, more, same)
