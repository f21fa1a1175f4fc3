use Rattle.std.proofs.Common.{◌≤◌, arith}
use Rattle.bt_capture.proofs.Buffers.{longer}
use Rattle.bt_capture.proofs.buffer.lengthen.Goals as goal

pub returns-clause-same : goal.returns-clause-same
returns-clause-same c =
    let few : c.args.size ≤ 1048604 = omega (arith, c.requires.few) in
    longer c.resize.result 1048604 c.args.size _ c.args.bytes.now.items _ c.resize.ensures.items few (omega (arith, c.requires.within, c.args.bytes.now.ok.0))
