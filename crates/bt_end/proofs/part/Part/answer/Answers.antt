use Rattle.bt_end.proofs.Others.{unserved_reply}
use Rattle.bt_end.proofs.part.Part.answer.Goals as goal

pub returns-in_default : goal.returns-in_default
returns-in_default g c = record { reply = unserved_reply c.args.self.now c.args.piece c.in_default.not-Serving; bounds = tt }
