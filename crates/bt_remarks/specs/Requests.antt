-- Requests that are pending: each block's, with what an event changes of them.
use Rattle.std.specs.Prelude.{ℕ, ◌==◌, ◌&&◌, ◌||◌, not, ◌+◌, ◌-◌, max, nat_le, nat_lt, is_some, Bool, false, Option, Some, None, if◌then◌else◌}
use Rattle.bt_remarks.specs.declared.events.Block.{Block}
use Rattle.bt_remarks.specs.declared.requests.Asked.{Asked}
use Rattle.bt_remarks.specs.declared.tallies.Request.{Request}

-- the pending request of a block, by the piece's index and the block's begin
abbrev pub Pending : Type 0
Pending = ℕ → ℕ → Option Asked

abbrev pub is_at : Block → ℕ → ℕ → Bool
is_at block index begin = block.index == index && block.begin == begin

-- whether a request was pending and of this length
abbrev pub has_length : ℕ → Option Asked → Bool
has_length n None = false
has_length n (Some request) = request.length == n

-- A request opens, and takes the place of an earlier one of the same block.
abbrev pub opened : Option Block → ℕ → ℕ → Pending → Pending
opened None number mark pending index begin = pending index begin
opened (Some block) number mark pending index begin =
    if is_at block index begin then Some (record { number = number; length = block.length; mark = mark; is_cancelled = false }) else pending index begin

-- whether a cancel is of this block and length
abbrev pub is_cancel : Option Block → ℕ → ℕ → ℕ → Bool
is_cancel None index begin n = false
is_cancel (Some block) index begin n = is_at block index begin && n == block.length

abbrev pub marked : (ℕ → Bool) → Option Asked → Option Asked
marked cancels None = None
marked cancels (Some request) = Some (record request { is_cancelled = cancels request.length || request.is_cancelled })

-- A cancel of its block and length marks a request, which stays pending: its answer may be under way.
abbrev pub with_cancel : Option Block → Pending → Pending
with_cancel None pending index begin = pending index begin
with_cancel (Some block) pending index begin = marked (is_cancel (Some block) index begin) (pending index begin)

-- An answer of its block and length closes a request.
abbrev pub closed : Option Block → Pending → Pending
closed None pending index begin = pending index begin
closed (Some block) pending index begin =
    if is_at block index begin && has_length block.length (pending index begin) then None else pending index begin

-- how many are pending, after a request and an answer
abbrev pub count_after : Option Block → Option Block → Pending → ℕ → ℕ
count_after (Some block) answer pending count = if is_some (pending block.index block.begin) then count else count + 1
count_after None (Some block) pending count = if has_length block.length (pending block.index block.begin) then count - 1 else count
count_after None None pending count = count

-- whether a request comes while 65,536 others are pending
abbrev pub is_too_much : Option Block → Pending → ℕ → Bool
is_too_much None pending count = false
is_too_much (Some block) pending count = not (is_some (pending block.index block.begin)) && nat_le 65536 count

abbrev pub later_of : ℕ → Option Asked → ℕ → ℕ
later_of n None number = number
later_of n (Some request) number = if request.length == n then max number request.number else number

-- the newest request that was answered
abbrev pub answered_after : Option Block → Pending → ℕ → ℕ
answered_after None pending number = number
answered_after (Some block) pending number = later_of block.length (pending block.index block.begin) number

-- whether an answer has no pending request. After too many requests nobody knows.
abbrev pub is_unasked : Option Block → Bool → Pending → Bool
is_unasked None overflowed pending = false
is_unasked (Some block) overflowed pending = not overflowed && not (has_length block.length (pending block.index block.begin))

-- Whether a pending request may have been dropped. With the Fast Extension of both sides each is answered (BEP 6). Without it a choke rejects all
-- that are pending, and a cancel its own: the other side chokes, or has stopped to choke since the request, or it was cancelled.
abbrev pub is_dropped : Bool → Bool → ℕ → Asked → Bool
is_dropped fast choking unchoke request = not fast && (choking || nat_lt request.number unchoke || request.is_cancelled)

abbrev pub stands : (Asked → Bool) → Option Asked → Bool
stands dropped None = false
stands dropped (Some request) = not (dropped request)

-- whether a request is of a block with a pending one that wasn't dropped
abbrev pub is_again : Option Block → Bool → (Asked → Bool) → Pending → Bool
is_again None overflowed dropped pending = false
is_again (Some block) overflowed dropped pending = not overflowed && stands dropped (pending block.index block.begin)

-- whether a pending request is older than a later event that should have followed its answer, or the other side closed
abbrev pub is_late : Bool → ℕ → Asked → Bool
is_late closes later request = closes || nat_lt request.number later

-- a pending request with its block's index and begin
abbrev pub Entry : Type 0
Entry = (ℕ × ℕ) × Asked

-- the older one of two requests
abbrev pub sooner : Option Entry → Entry → Option Entry
sooner None entry = Some entry
sooner (Some first) entry = if nat_le first.1.number entry.1.number then Some first else Some entry

abbrev pub request_of : Entry → Request
request_of entry = record { mark = entry.1.mark; block = record { index = entry.0.0; begin = entry.0.1; length = entry.1.length } }
