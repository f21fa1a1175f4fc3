use Rattle.std.proofs.Common.{◌≡◌, ◌<◌, ◌-◌, ℕ, vec_len, slice_index_or}
use Rattle.bt_exchange.proofs.slots.Slots.next.Given as goal

-- those that were given out before stay where they are
abbrev pub invariant-loop-self : goal.invariant-loop-self
invariant-loop-self l = record {
  given : l.self.given ≡ l.fn.self.given;
  kept : (k d : ℕ) → k < l.fn.self.given → k < vec_len l.fn.self.listed
      → slice_index_or l.self.listed.items k d ≡ slice_index_or l.fn.self.listed.items k d;
}

abbrev pub decreases-loop-self : goal.decreases-loop-self
decreases-loop-self l = vec_len l.self.listed - l.self.given
