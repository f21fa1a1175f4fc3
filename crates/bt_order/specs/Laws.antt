-- Laws of packets and their streams.
use Rattle.std.specs.Prelude.{◌≡◌, ℕ, ◌⊎◌, ◌↔◌, true, List, [], ◌∷◌}
use Rattle.bt_tcp.specs.Segments.{IsStream}
use Rattle.bt_order.specs.declared.direction.Direction.{Direction}
use Rattle.bt_order.specs.Streams.{Packet, utp_stream, turned}
use Rattle.bt_order.specs.Directions.{IsDirectionOf}
use Rattle.bt_order.specs.States.{is_fresh}

-- The segments of a direction's packets make the packets' stream: what TCP's definition says of them is what uTP's says of the packets.
abbrev pub TurnedIsTheStream : Type 0
TurnedIsTheStream = (base : ℕ) (ps : List Packet) → IsStream (turned base [] ps) base (utp_stream ps)

-- This packet came.
abbrev pub Came : List Packet → Packet → Type 0
Came [] p = ⊥
Came (q ∷ ps) p = (q ≡ p) ⊎ Came ps p

-- A packet that was sent again is the same.
abbrev pub Agree : List Packet → Type 0
Agree ps = (p q : Packet) → Came ps p → Came ps q → p.index ≡ q.index → p ≡ q

-- If packets agree, their order, and how often each comes, doesn't matter.
abbrev pub OrderDoesntMatter : Type 0
OrderDoesntMatter = (ps qs : List Packet) → Agree ps → ((p : Packet) → Came ps p ↔ Came qs p) → utp_stream ps ≡ utp_stream qs

-- A direction in which no packet was taken has handed out nothing.
abbrev pub FreshIsNothing : Type 0
FreshIsNothing = (d : Direction) (ps : List Packet) (out : List ℕ) → IsDirectionOf ps out d → is_fresh d ≡ true → out ≡ []
