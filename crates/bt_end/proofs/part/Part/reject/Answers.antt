use Rattle.bt_end.proofs.Others.{not_fetching}
use Rattle.bt_end.proofs.part.Part.reject.Goals as goal

pub returns-in_default : goal.returns-in_default
returns-in_default g c =
    let idle = not_fetching c.args.self.now c.in_default.not-Fetching in
    record { part = idle.unrefused c.args.piece; event = idle.unrejected c.args.piece }
