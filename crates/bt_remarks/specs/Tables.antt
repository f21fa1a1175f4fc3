-- The pending requests of a side, as the code keeps them.
use Rattle.std.specs.Prelude.{◌≡◌, ℕ, ◌||◌, false, None, Option}
use Rattle.std.specs.Ordering.{nat_cmp, ordering_then}
use Rattle.std.specs.BTreeMap.{get, btree_map_len}
use Rattle.bt_remarks.specs.declared.events.Block.{Block}
use Rattle.bt_remarks.specs.declared.requests.Requests.{Requests}
use Rattle.bt_remarks.specs.Requests.{Pending, opened, with_cancel, closed, count_after, is_too_much, answered_after}

abbrev pub request_at : Requests → Pending
request_at requests index begin = get (λ x y. ordering_then (nat_cmp x.0 y.0) (nat_cmp x.1 y.1)) requests.pending (index, begin)

-- There was no request.
pub record IsNew (requests : Requests) : Type 0 where
  pub overflowed : requests.overflowed ≡ false
  pub pending : (index begin : ℕ) → request_at requests index begin ≡ None
  pub count : btree_map_len requests.pending ≡ 0
  pub answered : requests.answered ≡ 0

-- A request, a cancel and an answer came.
pub record IsAfter (request cancel answer : Option Block) (number mark : ℕ) (old new : Requests) : Type 0 where
  pub overflowed : new.overflowed ≡ (is_too_much request (request_at old) (btree_map_len old.pending) || old.overflowed)
  pub pending : new.overflowed ≡ false → (index begin : ℕ)
      → request_at new index begin ≡ closed answer (with_cancel cancel (opened request number mark (request_at old))) index begin
  pub count : new.overflowed ≡ false → btree_map_len new.pending ≡ count_after request answer (request_at old) (btree_map_len old.pending)
  pub answered : new.overflowed ≡ false → new.answered ≡ answered_after answer (request_at old) old.answered
