-- Which segments and acknowledgments count, by their numbers (RFC 9293 3.4, 3.10.7.4; RFC 5961 4).
-- What window holds isn't known from a capture that begins late or has losses, so the greatest possible one stands in its place.
use Rattle.std.specs.Prelude.{◌≡◌, ℕ, max, ◌+◌, ◌*◌, ◌%◌, ◌^◌, Bool, false, not, ◌&&◌, ◌||◌, nat_lt, nat_le, List, unwrap_or, is_some, if◌then◌else◌}
use Rattle.bt_tcp.specs.Heard.{Heard, zero_of, opening_of, end_of, acked_of, has_ack, high_of}
use Rattle.bt_tcp.specs.Places.{IsNearest}

-- the greatest window (RFC 7323 2.2, 2.3)
abbrev pub greatest_window : ℕ
greatest_window = 65535 * 2 ^ 14

-- A receiver expects next at most what was sent. So its window ends here or before (RFC 9293 3.3.1).
abbrev pub window_end : List Heard → ℕ
window_end heard = max (end_of heard) (acked_of heard) + greatest_window

-- The side's numbers are certain: a byte of it was captured, or its SYN's number is known. Until a byte was captured a SYN may give another number.
abbrev pub is_numbered : List Heard → Bool → Bool
is_numbered heard syn = nat_lt 0 (high_of heard) || (is_some (opening_of heard) && not syn)

-- A segment's first byte is past the window, or its FIN, which has a number after the data, is before what was acknowledged.
abbrev pub is_unacceptable : List Heard → (fin : Bool) → (size place : ℕ) → Bool
is_unacceptable heard fin size place = nat_le (window_end heard) place || (fin && nat_lt (place + size + 1) (acked_of heard))

-- The place is below 2^32, or the segment ends past 2^62.
abbrev pub is_out_of_range : (captured size place : ℕ) → Bool
is_out_of_range captured size place = nat_lt place (2 ^ 32) || (nat_lt (2 ^ 62) (place + size) || nat_lt (2 ^ 62) (place + captured))

-- A segment at this place is passed over.
abbrev pub is_passed : List Heard → (syn fin : Bool) → (captured size place : ℕ) → Bool
is_passed heard syn fin captured size place =
    is_out_of_range captured size place || (is_numbered heard syn && is_unacceptable heard fin size place)

-- Of the places that have this number it is the nearest to what was sent.
abbrev pub IsPlaceOf : List Heard → ℕ → ℕ → Type 0
IsPlaceOf heard number place = IsNearest (unwrap_or (zero_of heard) number) (end_of heard) number place

-- A segment with this number is passed over, or it isn't.
abbrev pub IsPassed : List Heard → (sequence : ℕ) → (syn fin : Bool) → (captured size : ℕ) → Bool → Type 0
IsPassed heard sequence syn fin captured size passed =
    (place : ℕ) × IsPlaceOf heard ((sequence + (if syn then 1 else 0)) % 2 ^ 32) place × (passed ≡ is_passed heard syn fin captured size place)

-- The acknowledgment is of something that can't have been sent yet (RFC 9293 3.10.7.4): what is sent lies in the window.
abbrev pub is_unsent : List Heard → ℕ → Bool
is_unsent heard place = is_numbered heard false && nat_lt (window_end heard) place

-- An acknowledgment with this number is so, or it isn't.
abbrev pub IsUnsent : List Heard → ℕ → Bool → Type 0
IsUnsent heard number unsent = (place : ℕ) × IsPlaceOf heard number place × (unsent ≡ is_unsent heard place)

-- No segment fills a gap at this place any more: what says so is its acknowledgment (RFC 9293 3.4). If no side acknowledges, nothing can say it.
abbrev pub is_past_filling : List Heard → ℕ → Bool
is_past_filling heard place = not (has_ack heard) || nat_lt place (acked_of heard)
