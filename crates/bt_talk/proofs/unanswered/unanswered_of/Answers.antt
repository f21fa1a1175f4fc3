use Rattle.std.proofs.Common.{Option, IfSome, List, sym, subst}
use Rattle.bt_remarks.specs.declared.tallies.Request.{Request}
use Rattle.bt_remarks.specs.Ends.{unanswered, AreFoundOf, IsFirst, IsAsked}
use Rattle.bt_remarks.specs.Matched.{IsMatched}
use Rattle.bt_remarks.specs.Said.{Told}
use Rattle.bt_rows.specs.declared.said.Said.{Said}
use Rattle.bt_talk.specs.Watching.{IsAmong}
use Rattle.bt_talk.proofs.AskedItems.{asked_item}
use Rattle.bt_talk.proofs.unanswered.unanswered_of.Goals as goal

pub returns-in-Some : goal.returns-in-Some
returns-in-Some c = λ events xs matched said.
    let requests = unanswered c.args.ending.closed_first c.args.ending.stopped c.args.side events in
    let request = c.in-Some.request in
    let asked : (events : List Told) → IsMatched events c.args.matcher.now → IsAsked c.args.side events request =
    subst (λ (o : Option Request). IfSome o (λ r. (events : List Told) → IsMatched events c.args.matcher.now → IsAsked c.args.side events r)) c.in-Some.is
    c.unanswered-found.ensures.asked in
    record {
      first = request;
      found = subst (λ (o : Option Request). AreFoundOf requests (record { count = c.unanswered-found.result.count; first = o })) c.in-Some.is
          (c.unanswered-found.ensures.found events matched);
      said = c.request_said.ensures;
      item = subst (λ (s : Said). IsAmong xs request.mark s) (sym c.request_said.ensures)
          (asked_item c.args.side events xs request (asked events matched) said);
    }

pub returns-in-None : goal.returns-in-None
returns-in-None c = λ events xs matched said.
    let requests = unanswered c.args.ending.closed_first c.args.ending.stopped c.args.side events in
    subst (λ (o : Option Request). IsFirst requests o) c.in-None.is (c.unanswered-found.ensures.found events matched).first
