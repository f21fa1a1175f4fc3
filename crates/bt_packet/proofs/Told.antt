-- What the function gives is what the frame carries.
use Rattle.std.proofs.Common.{◌≡◌, ℕ, List, Option, Some, None, sym, ◌∙◌}
use Rattle.bt_packet.specs.Ip.{Contents, carried}
use Rattle.bt_packet.specs.Tcp.{TcpSegment, segment_of}
use Rattle.bt_packet.specs.Segments.{IsCarriedBy, AreContentsTold, IsSegmentOf, IsTold}
use Rattle.bt_packet.proofs.Found.{no_some}
use Rattle.bt_packet.proofs.FoundTcp.{carried_found, segment_found}
use Rattle.bt_packet.proofs.ReadAll.{carried_read, segment_read}

pub told : (link : ℕ) (bytes : List ℕ) (wire : ℕ) (o : Option TcpSegment) → o ≡ segment_of link bytes wire → IsTold link bytes wire o
told link bytes wire (Some s) e = segment_found link bytes wire s (sym e)
told link bytes wire None e = λ (s : TcpSegment) (is : IsSegmentOf link bytes wire s). no_some s (e ∙ segment_read link bytes wire s is)

pub contents_told : (link : ℕ) (bytes : List ℕ) (wire : ℕ) (o : Option Contents) → o ≡ carried link bytes wire → AreContentsTold link bytes wire o
contents_told link bytes wire (Some c) e = carried_found link bytes wire c (sym e)
contents_told link bytes wire None e = λ (c : Contents) (is : IsCarriedBy link bytes wire c). no_some c (e ∙ carried_read link bytes wire c is)
