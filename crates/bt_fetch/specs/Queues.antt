-- How often each address of a queue has come.
use Rattle.std.specs.Prelude.{ℕ, ◌+◌, ◌-◌, ◌==◌, nat_lt, not, cond, Bool, false, List, length, count_by, slice_index_or, Option, Some, None}

abbrev pub one : Bool → ℕ
one b = cond b 1 0

-- an address below `next` has come, and those marked so have come again
abbrev pub dials_of : ℕ → List Bool → ℕ → ℕ
dials_of next again k = one (nat_lt k next) + one (slice_index_or again k false)

-- how many more may come
abbrev pub rest_of : ℕ → List Bool → ℕ
rest_of next again = (length again - next) + count_by not again

-- how often the address k came, if this one came
abbrev pub taken : Option ℕ → ℕ → ℕ
taken None k = 0
taken (Some address) k = one (address == k)
