use Rattle.std.proofs.Common.{rules}
use Rattle.bt_feed.proofs.view.refusal_in.Goals as goal

pub returns : goal.returns
returns c = search rules
