use Rattle.bt_judge.proofs.Blocks.{block_is_any}
use Rattle.bt_judge.proofs.laws.any_block.Goals as goal

pub returns : goal.returns
returns c = block_is_any
