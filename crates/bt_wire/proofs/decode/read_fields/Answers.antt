use Rattle.std.proofs.Common.{rules}
use Rattle.bt_wire.specs.Parts.{made}
use Rattle.bt_wire.proofs.decode.read_fields.Goals as goal

pub returns-in-13-clause-message : goal.returns-in-13-clause-message
unfolding made
returns-in-13-clause-message c = search rules
