-- What a frame carries is read, also in a packet in a packet.
use Rattle.std.proofs.Common.{◌≡◌, ℕ, ◌-◌, ◌≤◌, false, List, length, Some, option_and_then, ap, ◌∙◌, arith}
use Rattle.bt_packet.specs.Ip.{Contents, ip_after, innermost, carried}
use Rattle.bt_packet.specs.Tcp.{TcpSegment, segment_in, segment_of}
use Rattle.bt_packet.specs.Segments.{IsCarriedBy, IsSegmentOf}
use Rattle.bt_packet.proofs.Read.{frame_read, ip_read, segment_in_read}
use Rattle.bt_packet.proofs.Within.{unwrapped_read}

pub carried_read : (link : ℕ) (bytes : List ℕ) (wire : ℕ) (c : Contents) → IsCarriedBy link bytes wire c → carried link bytes wire ≡ Some c
carried_read link bytes wire c i =
    ap (λ x. option_and_then innermost (option_and_then (ip_after wire bytes) x)) (frame_read link bytes i.packet i.has_packet)
    ∙ ap (option_and_then innermost) (ip_read _ i.packet i.outermost i.has_contents)
    ∙ unwrapped_read (length i.outermost.payload) i.outermost i.between c i.within i.innermost (omega arith)

pub segment_read : (link : ℕ) (bytes : List ℕ) (wire : ℕ) (s : TcpSegment) → IsSegmentOf link bytes wire s → segment_of link bytes wire ≡ Some s
segment_read link bytes wire s i =
    ap (option_and_then segment_in) (carried_read link bytes wire i.contents i.carried_by) ∙ segment_in_read i.contents s i.has_segment
