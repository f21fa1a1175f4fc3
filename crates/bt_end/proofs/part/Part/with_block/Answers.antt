use Rattle.bt_end.proofs.Others.{not_fetching}
use Rattle.bt_end.proofs.part.Part.with_block.Goals as goal

pub returns-in_default : goal.returns-in_default
returns-in_default g c =
    let idle = not_fetching c.args.self c.in_default.not-Fetching in
    record { part = idle.same c.args.piece c.args.total c.args.block.now; event = idle.told c.args.piece c.args.total c.args.block.now }
