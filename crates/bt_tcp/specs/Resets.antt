-- Which numbers a side's receiver may expect next, for a reset that the side sends (RFC 9293 3.5.3).
use Rattle.std.specs.Prelude.{◌≡◌, ℕ, ◌+◌, Bool, true, false, ◌&&◌, ◌||◌, nat_le, List, Option, Some, None}
use Rattle.bt_tcp.specs.Heard.{Heard, zero_of, end_of, acked_of, fin_of}
use Rattle.bt_tcp.specs.Places.{IsNearest}

-- at most the place after the FIN, which has a number too (RFC 9293 3.4)
abbrev pub is_to_fin : Option ℕ → ℕ → Bool
is_to_fin None place = false
is_to_fin (Some fin) place = nat_le place (fin + 1)

-- The side is known to have sent all before this place: its segments end there or later, or its receiver acknowledged that.
abbrev pub is_sent_to : List Heard → ℕ → Bool
is_sent_to heard place = nat_le place (end_of heard) || (nat_le place (acked_of heard) || is_to_fin (fin_of heard) place)

-- The receiver expects next a place from what it has acknowledged to what was sent: before RCV.NXT is what it acknowledged (RFC 9293 3.3.1, 3.4).
abbrev pub is_next_at : List Heard → ℕ → Bool
is_next_at heard place = nat_le (acked_of heard) place && is_sent_to heard place

abbrev pub MayBeNextBy : Option ℕ → List Heard → ℕ → Bool → Type 0
MayBeNextBy None heard number next = next ≡ true
MayBeNextBy (Some zero_number) heard number next =
    (place : ℕ) × IsNearest zero_number (end_of heard) number place × (next ≡ is_next_at heard place)

-- The receiver may expect this number next, or it can't. If no number of the side is known, it may expect any.
abbrev pub MayBeNext : List Heard → ℕ → Bool → Type 0
MayBeNext heard number next = MayBeNextBy (zero_of heard) heard number next
