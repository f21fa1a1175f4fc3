use Rattle.std.proofs.Common.{◌∙◌}
use Rattle.bt_metadata.proofs.Lengths.{block_count_is}
use Rattle.bt_metadata.proofs.assembly.block_count.Goals as goal

pub returns : goal.returns
returns c = c.div_ceil.ensures ∙ block_count_is c.args.size
