use Rattle.std.proofs.Common.{◌<◌, ◌^◌, arith}
use Rattle.bt_session.specs.MessageLinks.{size}
use Rattle.bt_link.proofs.Lengths.{has_lengths}
use Rattle.bt_link.proofs.items.push_line.Goals as goal

pub returns-clause-text : goal.returns-clause-text
returns-clause-text c =
    let lt : size c.args.item.now < 2 ^ 64 = omega arith in
    c.in_ok-push_item.ensures (has_lengths c.args.item.now lt)
