-- What the events so far show of a side. The newest event stands first.
use Rattle.std.specs.Prelude.{ℕ, ◌&&◌, ◌||◌, ◌+◌, Bool, true, false, List, [], ◌∷◌, length, None, if◌then◌else◌}
use Rattle.bt_remarks.specs.declared.events.Side.{Side}
use Rattle.bt_remarks.specs.declared.requests.Asked.{Asked}
use Rattle.bt_remarks.specs.Said.{Message, Handshake, Choke, Unchoke, AllowedFast, HaveAll, Bitfield, Have, Piece, Told, other, said}
use Rattle.bt_remarks.specs.Said.{Kind, Blocks, Metadata, asked, cancelled, answered}
use Rattle.bt_remarks.specs.Sets.{with_piece, with_field}
use Rattle.bt_remarks.specs.Requests.{Pending, opened, with_cancel, closed, count_after, is_too_much, answered_after, is_dropped}

-- an event's number, after these
abbrev pub number_after : List Told → ℕ
number_after earlier = length earlier + 1

abbrev pub fast_after : Message → Bool → Bool
fast_after (Handshake fast) before = fast
fast_after _ before = before

-- whether a side's handshake has the bit of the Fast Extension (BEP 6)
abbrev pub has_fast : Side → List Told → Bool
has_fast side [] = false
has_fast side (e ∷ earlier) = fast_after (said side e) (has_fast side earlier)

abbrev pub choking_after : Message → Bool → Bool
choking_after Choke before = true
choking_after Unchoke before = false
choking_after _ before = before

-- whether a side chokes the other one. It starts so (BEP 3).
abbrev pub is_choking : Side → List Told → Bool
is_choking side [] = true
is_choking side (e ∷ earlier) = choking_after (said side e) (is_choking side earlier)

abbrev pub choke_after : Message → ℕ → ℕ → ℕ
choke_after Choke number before = number
choke_after _ number before = before

-- the number of a side's last choke, or 0
abbrev pub last_choke : Side → List Told → ℕ
last_choke side [] = 0
last_choke side (e ∷ earlier) = choke_after (said side e) (number_after earlier) (last_choke side earlier)

abbrev pub unchoke_after : Message → Bool → ℕ → ℕ → ℕ
unchoke_after Unchoke choking number before = if choking then number else before
unchoke_after _ choking number before = before

-- the number of the unchoke with which a side last stopped choking, or 0
abbrev pub last_unchoke : Side → List Told → ℕ
last_unchoke side [] = 0
last_unchoke side (e ∷ earlier) = unchoke_after (said side e) (is_choking side earlier) (number_after earlier) (last_unchoke side earlier)

abbrev pub all_after : Message → Bool → Bool → Bool
all_after HaveAll known before = known || before
all_after _ known before = before

-- whether a side has said that it has all pieces, while the other side was known (BEP 6, "Have All/Have None")
abbrev pub has_all : Side → List Told → Bool
has_all side [] = false
has_all side (e ∷ earlier) = all_after (said side e) e.known (has_all side earlier)

abbrev pub named_after : Message → Bool → ℕ → Bool → Bool
named_after (Bitfield field) known piece before = if known then with_field field piece before else before
named_after (Have index) known piece before = if known then with_piece index piece before else before
named_after _ known piece before = before

-- whether a side's bitfield or have has named the piece, while the other side was known
abbrev pub is_named : Side → List Told → ℕ → Bool
is_named side [] piece = false
is_named side (e ∷ earlier) piece = named_after (said side e) e.known piece (is_named side earlier piece)

abbrev pub allowed_after : Message → ℕ → Bool → Bool
allowed_after (AllowedFast index) piece before = with_piece index piece before
allowed_after _ piece before = before

-- whether the other side has allowed a side the piece fast (BEP 6, "Allowed Fast")
abbrev pub is_allowed : Side → List Told → ℕ → Bool
is_allowed side [] piece = false
is_allowed side (e ∷ earlier) piece = allowed_after (said (other side) e) piece (is_allowed side earlier piece)

abbrev pub came_after : Message → ℕ → Bool → Bool
came_after (Piece block) piece before = with_piece block.index piece before
came_after _ piece before = before

-- whether the other side has sent a side a block of the piece
abbrev pub has_come : Side → List Told → ℕ → Bool
has_come side [] piece = false
has_come side (e ∷ earlier) piece = came_after (said (other side) e) piece (has_come side earlier piece)

-- A side's requests that are pending: without a later answer of their block and length, and without a later request of their block. Each is marked if
-- it was cancelled.
abbrev pub pending : Kind → Side → List Told → Pending
pending kind side [] index begin = None
pending kind side (e ∷ earlier) index begin =
    closed (answered kind (said (other side) e)) (with_cancel (cancelled kind (said side e))
    (opened (asked kind (said side e)) (number_after earlier) e.mark (pending kind side earlier))) index begin

-- how many they are
abbrev pub pending_count : Kind → Side → List Told → ℕ
pending_count kind side [] = 0
pending_count kind side (e ∷ earlier) =
    count_after (asked kind (said side e)) (answered kind (said (other side) e)) (pending kind side earlier) (pending_count kind side earlier)

-- whether they ever were more than 65,536. From then on nobody knows which are pending.
abbrev pub overflowed : Kind → Side → List Told → Bool
overflowed kind side [] = false
overflowed kind side (e ∷ earlier) =
    is_too_much (asked kind (said side e)) (pending kind side earlier) (pending_count kind side earlier) || overflowed kind side earlier

-- the number of a side's newest request that was answered, or 0
abbrev pub last_answered : Kind → Side → List Told → ℕ
last_answered kind side [] = 0
last_answered kind side (e ∷ earlier) =
    answered_after (answered kind (said (other side) e)) (pending kind side earlier) (last_answered kind side earlier)

-- whether a pending request of a side may have been dropped; none of a piece of the metadata
abbrev pub may_be_dropped : Kind → Side → List Told → Asked → Bool
may_be_dropped Blocks side events =
    is_dropped (has_fast side events && has_fast (other side) events) (is_choking (other side) events) (last_unchoke (other side) events)
may_be_dropped Metadata side events = λ request. false
