use Rattle.std.proofs.Common.{◌≡◌, length, rules}
use Rattle.bt_loop.proofs.Passing.{passes_halt}
use Rattle.bt_loop.proofs.both.pass.Goals as goal

pub returns-in_default-Err : goal.returns-in_default-Err
returns-in_default-Err g c =
    let size : length c.fill.new.into ≡ c.in-Ok.count = search (rules, c.in-Ok-fill.ensures.size, c.in-Ok.ensures.sent.most) in
    passes_halt c.args.from c.other.result c.fill.new.into _ c.in_default-Err.error c.halt_by.result size c.in-Ok.ensures.sent c.other.ensures
    c.in-Ok-fill.ensures.filled c.take_turns.ensures c.in_default-Err.is-1 c.halt_by.ensures
