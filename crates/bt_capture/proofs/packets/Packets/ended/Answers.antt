use Rattle.std.proofs.Common.{◌≤◌, length, ap, arith}
use Rattle.bt_capture.proofs.Viewing.{all_items, nothing_held, nothing_skipped}
use Rattle.bt_capture.proofs.packets.Packets.ended.Goals as goal

pub returns-clause-whole : goal.returns-clause-whole
returns-clause-whole c e all packets i =
    let w = c.self.inside.walk in
    let buffer = c.self.inside.buffer in
    let le : length buffer ≤ w.at = omega (arith, c.if-self-as_slice.false, ap length c.as_slice.ensures) in
    all_items c.args.self.now all packets i (nothing_skipped w buffer c.self.inside.bytes _ c.self.view_is c.if-self-gt0.false)
    (nothing_held w buffer c.self.inside.bytes _ c.self.view_is le)
