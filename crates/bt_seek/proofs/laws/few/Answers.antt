use Rattle.bt_seek.proofs.Keeping.{few}
use Rattle.bt_seek.proofs.laws.few.Goals as goal

pub returns : goal.returns
returns c = few
