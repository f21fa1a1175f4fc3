-- What is put and the escapes of the bytes that are left are the whole's.
use Rattle.std.proofs.Common.{◌≡◌, ◌≤◌, ◌++◌, length, take}
use Rattle.std.specs.Prelude.{vec_capacity}
use Rattle.json.specs.Print.{escape}
use Rattle.bt_json.proofs.texts.push_escaped.Given as goal

abbrev pub invariant-loop-rest : goal.invariant-loop-rest
invariant-loop-rest l = record {
  put : l.lines.items ++ escape l.rest ≡ l.fn.lines.items ++ escape l.fn.bytes;
  kept : take (length l.fn.lines.items) l.lines.items ≡ l.fn.lines.items;
  capacity : vec_capacity l.fn.lines ≤ vec_capacity l.lines;
}

abbrev pub decreases-loop-rest : goal.decreases-loop-rest
decreases-loop-rest l = length l.rest
