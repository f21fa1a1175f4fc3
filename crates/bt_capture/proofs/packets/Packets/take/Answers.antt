use Rattle.std.proofs.Common.{refl, ap}
use Rattle.bt_capture.specs.Readings.{shown}
use Rattle.bt_capture.proofs.Viewing.{handed, repeated}
use Rattle.bt_capture.proofs.packets.Packets.take.Goals as goal

pub returns : goal.returns
returns c =
    let w = c.self.inside.walk in
    let buffer = c.self.inside.buffer in
    let n = c.self.inside.bytes in
    let hands = handed w c.give.new.self c.as_slice.result.now buffer n c.args.self.now (shown c.give.result) c.as_slice.ensures c.self.view_is
    (c.give.ensures.hands n) in
    let again = repeated w c.give.new.self c.as_slice.result.now buffer n c.args.self.now c.give.result c.as_slice.ensures c.self.view_is
    (c.give.ensures.again n) in (
      (refl, (λ _. tt), (hands, (λ f i. (ap shown (again f i).0, (again f i).1)))),
      record { again = λ f i. (again f i).0; after = tt },
    )
