use Rattle.std.proofs.Common.{rules}
use Rattle.bt_ext.proofs.ids.Registered.new.Goals as goal

pub returns-then-is_metadata-clause-donthave : goal.returns-then-is_metadata-clause-donthave
returns-then-is_metadata-clause-donthave c = search rules

pub returns-then-is_metadata-clause-apart : goal.returns-then-is_metadata-clause-apart
returns-then-is_metadata-clause-apart c = search rules
