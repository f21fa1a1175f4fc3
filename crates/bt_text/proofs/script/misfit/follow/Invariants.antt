-- The words so far and the rest are the text, and the words can be completed by what is expected after them.
use Rattle.std.proofs.Common.{◌≡◌, ◌++◌, true, drop}
use Rattle.bt_text.specs.Misfits.{IsCompleted}
use Rattle.bt_text.specs.ScriptReading.{ends}
use Rattle.bt_text.proofs.script.misfit.follow.Given as goal

abbrev pub invariant-loop-k : goal.invariant-loop-k
invariant-loop-k l = record {
  whole : l.front.items ++ l.rest ≡ l.fn.front.items ++ l.text;
  completed : IsCompleted l.first l.front.items (drop l.k l.expected);
  ends : ends l.rest ≡ true;
}
