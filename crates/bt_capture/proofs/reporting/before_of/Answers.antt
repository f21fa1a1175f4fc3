use Rattle.std.proofs.Common.{rules, ◌≡◌, true, is_some}
use Rattle.bt_capture.specs.Reportings.{IsReceiverOf}
use Rattle.bt_capture.proofs.Titles.{receiver_there}
use Rattle.bt_capture.proofs.reporting.before_of.Goals as goal

pub returns : goal.returns
returns c = λ a b i.
    let some : is_some c.receiver.result ≡ true = search rules in (
      receiver_there c.receiver.result (IsReceiverOf c.args.side a b c.args.talk.now) some (c.receiver.ensures a b i),
      c.in_ok-sent.ensures a b i,
      c.in_ok-last.ensures a b i,
    )
