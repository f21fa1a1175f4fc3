use Rattle.std.proofs.Common.{◌≡◌, List, string_bytes, take}
use Rattle.bt_packet.specs.Utp.{UtpPacket}
use Rattle.bt_utp.specs.Flows.{flows}
use Rattle.bt_utp.specs.States.{AreCounted}
use Rattle.bt_capture.specs.FlowTexts.{flow_texts}
use Rattle.bt_capture.proofs.utp.flow_lines.Given as goal

abbrev pub invariant-loop-place : goal.invariant-loop-place
invariant-loop-place l = record { lines : (ds : List UtpPacket) → AreCounted ds l.flows → string_bytes l.text ≡ flow_texts l.json (take l.place (flows ds)) }
