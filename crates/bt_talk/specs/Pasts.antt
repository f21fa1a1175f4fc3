-- What was captured of one side of a connection, and how a segment adds to it.
use Rattle.std.specs.Prelude.{◌≡◌, ℕ, Bool, true, false, List, [], ◌∷◌, ◌++◌, Option, Some, None, ◌⊎◌, if◌then◌else◌}
use Rattle.bt_tcp.specs.Segments.{Segment}
use Rattle.bt_tcp.specs.Heard.{Heard, Took, Acked}
use Rattle.bt_tcp.specs.Acceptable.{IsUnsent, is_unsent}
use Rattle.bt_flow.specs.declared.flow.Flow.{Flow}
use Rattle.bt_flow.specs.declared.flow.Given.{Given}
use Rattle.bt_flow.specs.Flows.{IsFlow, IsHeeded, IsLeftOut, IsLost, IsPassedBy, IsTakenAt, sent_at, with_segment}
use Rattle.bt_packet.specs.declared.tcp.Segment.{Segment as TcpSegment}

-- what was heard of a side, the segments with data that it sent, the bytes that they make up, and those of the opening
pub record Past : Type 0 where
  pub heard : List Heard
  pub segs : List Segment
  pub out : List ℕ
  pub front : List ℕ

abbrev pub no_past : Past
no_past = record { heard = []; segs = []; out = []; front = [] }

abbrev pub IsFlowOf : Past → Flow → Type 0
IsFlowOf p flow = IsFlow p.heard p.segs p.out flow

-- The segment was taken at its place; or it was heard of, but its bytes are left out; or it was passed over.
abbrev pub IsAdded : Given → Past → Flow → List ℕ → Past → Flow → Type 0
IsAdded g p flow more p' flow' =
    ((at : ℕ) × (p'.heard ≡ p.heard ++ Took (sent_at g at) ∷ []) × (p'.segs ≡ with_segment p.segs at g.payload.now)
    × IsTakenAt g p.heard p.segs p.out flow more flow' at)
    ⊎ (((at : ℕ) × (p'.heard ≡ p.heard ++ Took (sent_at g at) ∷ []) × (p'.segs ≡ p.segs) × IsHeeded p.heard g at × (more ≡ [])
    × IsLeftOut (p.heard ++ Took (sent_at g at) ∷ []) g at flow flow')
    ⊎ (IsPassedBy p.heard g true × (more ≡ []) × (p'.heard ≡ p.heard) × (p'.segs ≡ p.segs) × (flow'.stream ≡ flow.stream) × (flow'.noted ≡ flow.noted)))

-- The side sent a segment. In the opening its bytes belong to that.
pub record Adds (g : Given) (opening : Bool) (p : Past) (flow : Flow) (p' : Past) (flow' : Flow) : Type 0 where
  pub more : List ℕ
  pub out : p'.out ≡ p.out ++ more
  pub front : p'.front ≡ (if opening then p'.out else p.front)
  pub lost : IsLost flow → (more ≡ []) × IsLost flow'
  pub added : IsAdded g p flow more p' flow'

-- what a segment says of its sender's stream
abbrev pub given_of : TcpSegment → Given
given_of s = record { sequence = s.sequence; syn = s.flags.syn; fin = s.flags.fin; payload = s.payload; length = s.length }

abbrev pub HasSentBy : Bool → TcpSegment → Bool → Past → Flow → Past → Flow → Type 0
HasSentBy true s opening p flow p' flow' = (p' ≡ p) × (flow' ≡ flow)
HasSentBy false s opening p flow p' flow' = Adds (given_of s) opening p flow p' flow'

-- The side sent a segment; one with RST adds nothing (RFC 9293 3.5.2).
abbrev pub HasSent : TcpSegment → Bool → Past → Flow → Past → Flow → Type 0
HasSent s opening p flow p' flow' = HasSentBy s.flags.rst s opening p flow p' flow'

abbrev pub IsAckedBy : Bool → Option ℕ → Bool → Past → Past → Type 0
IsAckedBy true acked opens p p' = p' ≡ p
IsAckedBy false None opens p p' = p' ≡ p
IsAckedBy false (Some n) opens p p' =
    ((at : ℕ) × (p' ≡ record p { heard = p.heard ++ Acked (record { number = n; opens = opens; place = at }) ∷ [] }) × (is_unsent p.heard at ≡ false))
    ⊎ ((p' ≡ p) × IsUnsent p.heard n true)

-- The other side sent a segment, which acknowledges what this side sent; one with RST doesn't count, nor one of what can't have been sent yet.
abbrev pub IsAcked : TcpSegment → Past → Past → Type 0
IsAcked s p p' = IsAckedBy s.flags.rst s.acked s.flags.syn p p'
