use Rattle.bt_c.proofs.BodyLaws as laws
use Rattle.bt_c.proofs.laws.bodies_are_last.Goals as goal

pub returns : goal.returns
returns c = laws.bodies_are_last
