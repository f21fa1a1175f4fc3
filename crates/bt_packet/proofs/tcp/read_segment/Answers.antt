use Rattle.std.proofs.Common.{ap, refl, ℕ, ◌*◌}
use Rattle.bt_packet.proofs.Segments.{tcp_read}
use Rattle.bt_packet.proofs.tcp.read_segment.Goals as goal

pub returns : goal.returns
returns c =
    tcp_read c.args.source c.args.target c.args.length c.args.bytes.now _
    c.from_be_bytes.result c.from_be_bytes-2.result c.from_be_bytes-3.result c.from_be_bytes-4.result
    _ c.saturating_sub.result c.acked.result c.flags_of-flags.result c.back.result.now
    c.in-len12-up.len_at_least refl c.in-len8-up.len_at_least c.if-offset-lt5.false
    c.from_be_bytes.ensures c.from_be_bytes-2.ensures c.from_be_bytes-3.ensures c.from_be_bytes-4.ensures c.flags_of-flags.ensures c.acked.ensures
    (ap (λ (x : ℕ). 4 * x) c.from-header.ensures) c.back.ensures c.saturating_sub.ensures
