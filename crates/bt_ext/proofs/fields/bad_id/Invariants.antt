-- The pairs that are left lead to the whole's answer.
use Rattle.std.proofs.Common.{◌≡◌}
use Rattle.bt_ext.specs.Fields.{has_bad_id}
use Rattle.bt_ext.proofs.fields.bad_id.Given as goal

abbrev pub invariant-loop-value : goal.invariant-loop-value
invariant-loop-value l = has_bad_id l.value-iterator ≡ has_bad_id l.initial.value-iterator
