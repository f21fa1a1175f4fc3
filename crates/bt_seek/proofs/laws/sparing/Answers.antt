use Rattle.bt_seek.proofs.Keeping.{sparing}
use Rattle.bt_seek.proofs.laws.sparing.Goals as goal

pub returns : goal.returns
returns c = sparing
