-- What a capture tells of one direction of a connection, beside its bytes: the segments that it sent, and the acknowledgements by the other side, newest last.
use Rattle.std.specs.Prelude.{◌≡◌, ℕ, max, ◌+◌, ◌-◌, ◌%◌, ◌^◌, Bool, List, [], ◌∷◌, Option, Some, None, unwrap_or, IsSome, is_some, ◌⊎◌, if◌then◌else◌, nat_lt}
use Rattle.std.specs.Bool.{then_some}
use Rattle.std.specs.Option.{option_or}
use Rattle.bt_tcp.specs.Places.{IsNearest}

-- a segment: its sequence number, two of its flags, how many of its bytes were captured, how many it has, and the place of the first one (RFC 9293 3.1)
pub record Sent : Type 0 where
  pub sequence : ℕ
  pub syn : Bool
  pub fin : Bool
  pub captured : ℕ
  pub size : ℕ
  pub place : ℕ

-- an acknowledgement: its number, whether it came with a SYN, and its place (RFC 9293 3.1)
pub record Ack : Type 0 where
  pub number : ℕ
  pub opens : Bool
  pub place : ℕ

pub data Heard : Type 0 where
  Took : Sent → Heard
  Acked : Ack → Heard

-- the first, the last and the greatest of what some of them say

abbrev pub first : (Heard → Option ℕ) → List Heard → Option ℕ
first f [] = None
first f (e ∷ heard) = option_or (f e) (first f heard)

abbrev pub latest : (Heard → Option ℕ) → List Heard → Option ℕ
latest f [] = None
latest f (e ∷ heard) = option_or (latest f heard) (f e)

abbrev pub raised : Option ℕ → ℕ → ℕ
raised None n = n
raised (Some m) n = max m n

-- no less than `least`
abbrev pub greatest : ℕ → (Heard → Option ℕ) → List Heard → ℕ
greatest least f [] = least
greatest least f (e ∷ heard) = raised (f e) (greatest least f heard)

-- numbers: the SYN and the FIN count one each, before and after the data (RFC 9293 3.4)

-- the number of the first data byte, or the one that is acknowledged
abbrev pub number_of : Heard → ℕ
number_of (Took s) = (s.sequence + (if s.syn then 1 else 0)) % 2 ^ 32
number_of (Acked a) = a.number

abbrev pub some_number : Heard → Option ℕ
some_number e = Some (number_of e)

-- the number of the place 2^40
abbrev pub zero_of : List Heard → Option ℕ
zero_of heard = first some_number heard

abbrev pub syn_number : Heard → Option ℕ
syn_number (Took s) = then_some s.syn s.sequence
syn_number (Acked a) = None

-- The other side's SYN acknowledges this side's (RFC 9293 3.5).
abbrev pub acked_syn : Heard → Option ℕ
acked_syn (Took s) = None
acked_syn (Acked a) = then_some a.opens ((a.number + (2 ^ 32 - 1)) % 2 ^ 32)

-- the number of this side's SYN: its own, if it was captured
abbrev pub opening_of : List Heard → Option ℕ
opening_of heard = option_or (latest syn_number heard) (first acked_syn heard)

-- places

abbrev pub segment_end : Heard → Option ℕ
segment_end (Took s) = Some (s.place + s.size)
segment_end (Acked a) = None

abbrev pub captured_end : Heard → Option ℕ
captured_end (Took s) = then_some (nat_lt 0 s.captured) (s.place + s.captured)
captured_end (Acked a) = None

-- The FIN comes after the data (RFC 9293 3.4).
abbrev pub fin_place : Heard → Option ℕ
fin_place (Took s) = then_some s.fin (s.place + s.size)
fin_place (Acked a) = None

abbrev pub acked_place : Heard → Option ℕ
acked_place (Took s) = None
acked_place (Acked a) = Some a.place

-- where the segments end, at least the first place
abbrev pub end_of : List Heard → ℕ
end_of heard = greatest (2 ^ 40) segment_end heard

-- where what was acknowledged ends, at least the first place
abbrev pub acked_of : List Heard → ℕ
acked_of heard = greatest (2 ^ 40) acked_place heard

-- An acknowledgment was captured.
abbrev pub has_ack : List Heard → Bool
has_ack heard = is_some (first acked_place heard)

-- where what was captured ends, 0 if nothing was
abbrev pub high_of : List Heard → ℕ
high_of heard = greatest 0 captured_end heard

-- the place of the FIN, which is no byte (RFC 9293 3.6)
abbrev pub fin_of : List Heard → Option ℕ
fin_of heard = latest fin_place heard

-- Each number stands at the place nearest to where the segments before it end (RFC 9293 3.4).
abbrev pub near_after : ℕ → Heard → ℕ
near_after near e = raised (segment_end e) near

abbrev pub place_of : Heard → ℕ
place_of (Took s) = s.place
place_of (Acked a) = a.place

abbrev pub IsPlaced : ℕ → ℕ → List Heard → Type 0
IsPlaced zero_number near [] = Unit {0}
IsPlaced zero_number near (e ∷ heard) = IsNearest zero_number near (number_of e) (place_of e) × IsPlaced zero_number (near_after near e) heard

-- The place up to which bytes are known to be sent, if none from `next` on was captured. An acknowledgement of one more may be a FIN's (RFC 9293 3.4, 3.6).
abbrev pub sent_of : List Heard → ℕ → ℕ
sent_of heard next = unwrap_or (fin_of heard) (max (end_of heard) (if nat_lt (next + 1) (acked_of heard) then acked_of heard else next))

-- the place after the SYN (RFC 9293 3.5): of those that have the number after it the nearest to the first place
pub record IsAfterSyn (heard : List Heard) (base : ℕ) : Type 0 where
  pub zero_number : ℕ
  pub syn : ℕ
  pub zero : zero_of heard ≡ Some zero_number
  pub opening : opening_of heard ≡ Some syn
  pub nearest : IsNearest zero_number (2 ^ 40) ((syn + 1) % 2 ^ 32) base

-- There is one if the SYN's number is known.
abbrev pub IsBase : List Heard → Option ℕ → Type 0
IsBase heard None = opening_of heard ≡ None
IsBase heard (Some base) = IsAfterSyn heard base

-- where the stream may begin: the place after the SYN, or else that of the first number that is known
abbrev pub IsStart : List Heard → Option ℕ → Type 0
IsStart heard None = zero_of heard ≡ None
IsStart heard (Some start) = IsAfterSyn heard start ⊎ ((opening_of heard ≡ None) × IsSome (zero_of heard) × (start ≡ 2 ^ 40))
