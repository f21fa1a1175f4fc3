use Rattle.bt_c.proofs.RunLaws as laws
use Rattle.bt_c.proofs.laws.items_are_the_verdicts.Goals as goal

pub returns : goal.returns
returns c = laws.items_are_the_verdicts
