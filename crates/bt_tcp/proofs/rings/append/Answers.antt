use Rattle.std.proofs.Common.{ap, ◌∙◌, arith}
use Rattle.bt_tcp.specs.Cells.{slot_of}
use Rattle.bt_tcp.proofs.RingProofs.{ring-appended}
use Rattle.bt_tcp.proofs.rings.append.Goals as goal

pub returns : goal.returns
returns c =
    ring-appended c.args.known.now c.write.new.known c.write-2.new.known c.args.bytes.now c.write.new.bytes c.write-2.new.bytes c.args.head c.args.gap
    c.slot-from.result c.min.result c.args.part.now c.split_at.result.0.now c.split_at.result.1.now c.requires.ring c.requires.room c.requires.some
    c.requires.unknown (c.slot-from.ensures.slot ∙ ap (λ n. slot_of n c.args.head c.args.gap) c.requires.ring.same)
    (omega (arith, c.min.ensures, c.requires.ring.same)) c.split_at.ensures.front c.split_at.ensures.back c.write.auto.known c.write.ensures
    c.write-2.auto.known c.write-2.ensures
