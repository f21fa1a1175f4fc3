use Rattle.std.proofs.Common.{rules}
use Rattle.bt_ext.proofs.fields.metadata_size.Goals as goal

pub returns : goal.returns
returns c = search rules
