use Rattle.std.proofs.Common.{rules}
use Rattle.bt_wire.proofs.message.Message.id.Goals as goal

pub returns-in-AllowedFast-clause-value : goal.returns-in-AllowedFast-clause-value
returns-in-AllowedFast-clause-value c = search rules
