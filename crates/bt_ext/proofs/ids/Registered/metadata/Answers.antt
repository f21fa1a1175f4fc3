use Rattle.std.proofs.Common.{rules}
use Rattle.bt_ext.proofs.ids.Registered.metadata.Goals as goal

pub returns-in_err-id : goal.returns-in_err-id
returns-in_err-id c = search rules
