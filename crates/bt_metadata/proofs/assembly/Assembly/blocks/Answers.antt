use Rattle.std.proofs.Common.{rules}
use Rattle.bt_metadata.proofs.assembly.Assembly.blocks.Goals as goal

pub returns : goal.returns
returns g c = search rules
