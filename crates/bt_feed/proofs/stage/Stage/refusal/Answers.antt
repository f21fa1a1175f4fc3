use Rattle.std.proofs.Common.{rules}
use Rattle.bt_feed.proofs.stage.Stage.refusal.Goals as goal

pub returns : goal.returns
returns c = search rules
