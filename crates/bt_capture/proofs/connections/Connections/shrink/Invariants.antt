use Rattle.std.proofs.Common.{◌≡◌, ◌≤◌, List, length}
use Rattle.std.specs.List.{All, Contains}
use Rattle.bt_io.specs.Seen.{TargetSeen}
use Rattle.bt_capture.specs.Arrivals.{Arrival, Clock}
use Rattle.bt_capture.specs.Bounds.{IsCounted}
use Rattle.bt_capture.specs.Following.{Follows, asked_of, since}
use Rattle.bt_capture.proofs.connections.Connections.shrink.Given as goal

abbrev pub decreases-oldest : goal.decreases-oldest
decreases-oldest l = length l.self.table

abbrev pub invariant-oldest : goal.invariant-oldest
invariant-oldest l = record {
  told : (start now : TargetSeen) (clock : Clock) (came : List Arrival) → Contains clock.packets l.when → l.when.packet ≡ clock.number
      → All (λ x. x.when.packet ≤ l.when.packet) came → Follows (since start l.from) now clock came l.initial.self.table l.initial.self
      → Follows (since start l.from) now clock came l.self.table l.self;
  asked : asked_of l.self ≡ asked_of l.initial.self;
  counted : IsCounted l.initial.self → IsCounted l.self;
}
