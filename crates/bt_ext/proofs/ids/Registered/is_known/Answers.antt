use Rattle.std.proofs.Common.{rules}
use Rattle.bt_ext.proofs.ids.Registered.is_known.Goals as goal

pub returns-else-needs_dict : goal.returns-else-needs_dict
returns-else-needs_dict c = search rules
