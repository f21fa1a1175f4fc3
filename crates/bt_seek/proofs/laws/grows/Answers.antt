use Rattle.bt_seek.proofs.Keeping.{grows}
use Rattle.bt_seek.proofs.laws.grows.Goals as goal

pub returns : goal.returns
returns c = grows
