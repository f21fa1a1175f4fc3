use Rattle.bt_end.proofs.Others.{unserved_size}
use Rattle.bt_end.proofs.part.Part.served_size.Goals as goal

pub returns-in_default : goal.returns-in_default
returns-in_default g c = record { value = unserved_size c.args.self.now c.in_default.not-Serving }
