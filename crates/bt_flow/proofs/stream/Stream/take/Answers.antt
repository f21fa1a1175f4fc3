use Rattle.std.proofs.Common.{[], append-nil, refl, sym, arith}
use Rattle.bt_flow.specs.Streams.{since_hole}
use Rattle.bt_flow.proofs.Streams.{next_since, takes_lost, takes_on}
use Rattle.bt_flow.proofs.stream.Stream.take.Goals as goal

pub returns-then-self-clause-taken : goal.returns-then-self-clause-taken
returns-then-self-clause-taken c = record {
  rest = [];
  is = sym (append-nil c.args.later.now.items);
  more = takes_lost c.args.at c.args.part.now c.args.self.now _ refl refl c.if-self.true c.if-self.true refl refl (λ k. refl)
      (λ segs out i. omega (arith, c.count_conflicts-count.ensures (since_hole out c.args.self.now) (next_since segs out c.args.self.now i) i.history));
}

pub returns-in-Ok-clause-taken : goal.returns-in-Ok-clause-taken
returns-in-Ok-clause-taken c =
    let t = c.in-Ok.ensures in
    record {
      rest = t.rest;
      is = t.is;
      more = takes_on c.args.at c.args.part.now c.args.self.now _ _ _ refl refl c.if-self.false refl t.more
          (λ segs out i. record {
            next_is = i.next_is;
            front = i.front;
            resumed = i.resumed;
            reached = i.reached;
            history = i.history;
            taken = i.taken;
            stream = i.stream;
            none = i.none;
          })
          (λ segs out i. omega (arith, c.count_conflicts-count.ensures (since_hole out c.args.self.now) (next_since segs out c.args.self.now i) i.history));
    }
