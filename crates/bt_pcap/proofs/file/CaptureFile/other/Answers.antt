use Rattle.std.proofs.Common.{arith}
use Rattle.bt_pcap.proofs.Bodies.{body_long}
use Rattle.bt_pcap.proofs.file.CaptureFile.other.Goals as goal

pub packet_of-packet-requires : goal.packet_of-packet-requires
packet_of-packet-requires c =
    body_long c.args.kind c.args.total c.args.bytes.now c.in-Some.front.now c.at_most-body.result.now c.at_most-body.ensures c.in-Some.ensures.front
    (omega arith) (omega arith) c.in-Some.ensures.whole

pub note-requires : goal.note-requires
note-requires c =
    body_long c.args.kind c.args.total c.args.bytes.now c.in-Some.front.now c.at_most-body.result.now c.at_most-body.ensures c.in-Some.ensures.front
    (omega arith) (omega arith) c.in-Some.ensures.whole
