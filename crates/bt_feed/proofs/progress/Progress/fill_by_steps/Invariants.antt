use Rattle.std.proofs.Common.{◌≡◌, ◌≤◌, ◌-◌, length}
use Rattle.bt_feed.specs.Progress.{IsProgress, IsSameItem, Fills}
use Rattle.bt_feed.proofs.progress.Progress.fill_by_steps.Given as goal

abbrev pub invariant-steps : goal.invariant-steps
invariant-steps g l = record {
  fills : Fills l.fn.self.place l.fn.buffer.items l.piece l.buffer.items l.at;
  sound : IsProgress l.self l.buffer.items;
  room : l.fn.buffer.capacity ≤ l.buffer.capacity;
  same : IsSameItem l.fn.self l.self;
  unjudged : l.self.wanted ≡ 0;
}

abbrev pub decreases-steps : goal.decreases-steps
decreases-steps g l = length l.piece - l.at
