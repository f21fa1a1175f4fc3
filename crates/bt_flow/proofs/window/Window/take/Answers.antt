use Rattle.std.proofs.Common.{◌≡◌, ◌+◌, ◌-◌, ◌++◌, take, drop, sym, subst, arith}
use Rattle.bt_flow.specs.Memory.{next_of, seen}
use Rattle.bt_flow.specs.Views.{Places, TakesIn}
use Rattle.bt_flow.proofs.Windows.{takes_in, takes_in_same}
use Rattle.bt_flow.proofs.window.Window.take.Goals as goal

pub returns-in_ok-drain-in-Taken-clause-taken : goal.returns-in_ok-drain-in-Taken-clause-taken
returns-in_ok-drain-in-Taken-clause-taken c =
    let n : c.in-Taken.from + c.in-Taken.len - c.in-Taken.from ≡ c.in-Taken.len = omega arith in
    let o = c.in_ok-drain-in-Taken.ensures in
    let placed = subst (λ p. Places c.args.at c.args.part.now (next_of c.args.self.now) (seen c.args.self.now) p (next_of c.place.new.self)
    (seen c.place.new.self)) c.in-Taken.is c.in_ok-place.ensures in
    record {
      rest = o.some.more;
      is = o.some.is;
      more = subst (λ k. TakesIn c.args.at c.args.part.now (next_of c.args.self.now) (seen c.args.self.now)
          (take k (drop c.in-Taken.from c.args.part.now) ++ o.some.more) (next_of c.release.new.self) (seen c.release.new.self)) (sym n)
          (takes_in_same c.args.at c.args.part.now (next_of c.args.self.now) (seen c.args.self.now) _ (next_of c.drain.new.self)
          (seen c.drain.new.self) (next_of c.release.new.self) (seen c.release.new.self) c.release.ensures.next c.release.ensures.same
          (takes_in c.args.at c.args.part.now (next_of c.args.self.now) (seen c.args.self.now) c.in-Taken.from c.in-Taken.len
          (next_of c.place.new.self) (seen c.place.new.self) c.args.later.now.items (next_of c.drain.new.self)
          (seen c.drain.new.self) c.drain.new.later.items placed o));
    }
