use Rattle.std.proofs.Common.{rules}
use Rattle.bt_ext.proofs.ids.Registered.donthave.Goals as goal

pub returns-in_err-id : goal.returns-in_err-id
returns-in_err-id c = search rules

pub returns-then-is_metadata : goal.returns-then-is_metadata
returns-then-is_metadata c = search rules
