use Rattle.std.proofs.Common.{subst, sym, IfSome, List}
use Rattle.bt_remarks.specs.declared.events.Side.{Side}
use Rattle.bt_remarks.specs.declared.events.Side.TheVariants.{A, B}
use Rattle.bt_remarks.specs.Said.{Told}
use Rattle.bt_remarks.specs.Ends.{IsAsked}
use Rattle.bt_remarks.specs.Matched.{IsMatched}
use Rattle.bt_remarks.proofs.AskedProofs.{first_asked}
use Rattle.bt_remarks.proofs.matcher.Matcher.unanswered.Goals as goal

pub returns-in-A-clause-asked : goal.returns-in-A-clause-asked
returns-in-A-clause-asked c =
    let is = λ (events : List Told). IsMatched events c.args.self.now in
    subst (λ (side : Side). IfSome c.unanswered.result.first (λ request. (events : List Told) → is events → IsAsked side events request)) (sym c.in-A.is)
    (first_asked is c.args.ending.closed_first c.args.ending.stopped A c.unanswered.result.first
    (λ events m. (c.unanswered.ensures A events m.a m.b).first))

pub returns-in-B-clause-asked : goal.returns-in-B-clause-asked
returns-in-B-clause-asked c =
    let is = λ (events : List Told). IsMatched events c.args.self.now in
    subst (λ (side : Side). IfSome c.unanswered-in-B.result.first (λ request. (events : List Told) → is events → IsAsked side events request)) (sym c.in-B.is)
    (first_asked is c.args.ending.closed_first c.args.ending.stopped B c.unanswered-in-B.result.first
    (λ events m. (c.unanswered-in-B.ensures B events m.b m.a).first))
