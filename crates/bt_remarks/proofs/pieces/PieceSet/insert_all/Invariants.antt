use Rattle.std.proofs.Common.{◌≡◌, ◌≤◌, ◌/◌, ◌||◌, ℕ, vec_len, ltb, if◌then◌else◌}
use Rattle.bt_remarks.specs.Sets.{has_bit}
use Rattle.bt_remarks.proofs.pieces.PieceSet.insert_all.Given as goal

abbrev pub invariant-loop-i : goal.invariant-loop-i
invariant-loop-i l = record {
  room : l.len ≤ vec_len l.self.field;
  bits : (k : ℕ) → has_bit l.self.field.items k ≡ (if ltb (k / 8) l.i then has_bit l.field k || has_bit l.initial.self.field.items k else has_bit
      l.initial.self.field.items k);
}
