use Rattle.std.proofs.Common.{arith}
use Rattle.std.proofs.lemmas.Grind.{common_steps}
use Rattle.std.proofs.lemmas.List.{drop-drop}
use Rattle.bt_address.proofs.Octets.{take_two}
use Rattle.bt_address.proofs.compact.split_address.Goals as goal

pub returns-in_ok-port-in-V6-clause-address : goal.returns-in_ok-port-in-V6-clause-address
returns-in_ok-port-in-V6-clause-address c = grind (arith, common_steps, take_two 16 2 c.args.bytes.now)

pub returns-in_ok-port-in-V6-clause-rest : goal.returns-in_ok-port-in-V6-clause-rest
returns-in_ok-port-in-V6-clause-rest c = grind (arith, common_steps, drop-drop 2 16 c.args.bytes.now)
