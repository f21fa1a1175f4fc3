use Rattle.bt_tracker.proofs.Ports.{number_by}
use Rattle.bt_tracker.proofs.url.number.Goals as goal

pub returns : goal.returns
returns c = number_by c.args.digits.now c.text.result.now c.parse.result c.ok.result c.text.ensures c.requires c.parse.ensures.value.0 c.ok.ensures.value
