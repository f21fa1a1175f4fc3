-- The entries so far are copied, and there is room for all.
use Rattle.std.proofs.Common.{◌≡◌, take, vec_len, vec_capacity}
use Rattle.bt_ext.proofs.table.copied.Given as goal

abbrev pub invariant-loop-name : goal.invariant-loop-name
invariant-loop-name g l = (l.copies.items ≡ take l.name-index l.entries.items) × (vec_capacity l.copies ≡ vec_len l.entries)
