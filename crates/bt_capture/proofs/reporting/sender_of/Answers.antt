use Rattle.bt_talk.specs.Talks.{of_side}
use Rattle.bt_capture.proofs.Titles.{title_is}
use Rattle.bt_capture.proofs.reporting.sender_of.Goals as goal

pub returns : goal.returns
returns c a b i = record {
  title = title_is (of_side c.args.side a b) c.client.result.now c.in-Some-handshake.handshake c.title_of.result c.title_of.ensures (c.client.ensures a b i)
      (c.in-Some-handshake.ensures a b i);
  verdicts = c.in-Some.ensures a b i;
  receiver = c.in-Some-receiver.ensures a b i;
}
