use Rattle.std.proofs.Common.{◌≡◌, ◌+◌, ◌-◌, ◌^◌, ◌≤◌, ℕ, List, length, take, Ok}
use Rattle.bt_wire.specs.declared.item.Item.{Item}
use Rattle.bt_feed.specs.declared.stage.Stage.TheVariants as stages
use Rattle.bt_feed.specs.Pumps.{IsHanded, IsFed}
use Rattle.bt_feed.specs.Feeds.{waiting}
use Rattle.bt_feed.proofs.passing.pass_messages.Given as goal

-- what was handed on so far
abbrev pub invariant-messages : goal.invariant-messages
invariant-messages g l = record {
  within : l.passed.bytes ≤ length l.piece;
  start : l.fn.start + l.passed.bytes ≤ 2 ^ 62 + 1048580;
  count : l.passed.messages ≤ l.passed.bytes;
  taken : l.passed.taken ≡ Ok tt;
  quiet : g.S.Sink.failed l.sink ≡ g.S.Sink.failed l.fn.sink;
  moved : (n : ℕ) → (xs : List (ℕ × Item)) × IsHanded g.S.Sink.takes g.S.Sink.misses l.fn.sink xs l.sink l.passed.taken
      × IsFed (waiting (stages.Message l.fn.context l.fn.order l.fn.start n)) (take l.passed.bytes l.piece) xs
      (waiting (stages.Message l.fn.context l.passed.order (l.fn.start + l.passed.bytes) (n + l.passed.messages)));
}

abbrev pub decreases-messages : goal.decreases-messages
decreases-messages g l = length l.piece - l.passed.bytes
