use Rattle.bt_feed.proofs.Found.{started}
use Rattle.bt_feed.proofs.stage.judge_start.Goals as goal

pub returns : goal.returns
returns c = started _ _ _ _ c.if-start-ge-END.false _ c.judge_header.ensures
