use Rattle.std.proofs.Common.{◌≡◌, ◌-◌, [], ◌++◌, length, length-append, append-nil, take, drop, refl, sym, ap, ◌∙◌, arith, subst}
use Rattle.bt_tcp.specs.History.{IsHistory}
use Rattle.bt_flow.specs.Wide.{next_of, seen}
use Rattle.bt_flow.specs.Views.{Takes}
use Rattle.bt_flow.proofs.Streams.{advance, advance_lost, newest}
use Rattle.bt_flow.proofs.stream.Stream.go_on.Goals as goal

pub returns-in_ok-remember-in-Some : goal.returns-in_ok-remember-in-Some
returns-in_ok-remember-in-Some c =
    let t = subst (λ o. Takes c.args.at c.args.part.now (next_of c.args.self.now.window) (seen c.args.self.now.window) c.args.later.now.items o
    (next_of c.take.new.self) (seen c.take.new.self) c.take.new.later.items) c.in-Some.is c.in_ok-fresh.ensures.taken in
    let fresh = c.in-Some.fresh.now in
    let rest : take (length c.deref.result.now - c.len-before.result) (drop c.len-before.result c.deref.result.now) ≡ t.rest
    = newest c.deref.result.now c.args.later.now.items t.rest c.len-before.result (c.deref.ensures.value ∙ t.is)
    (omega (arith, c.len-before.ensures)) in
    record {
      rest = t.rest;
      is = t.is;
      more = advance c.args.at c.args.part.now c.args.self.now (fresh ++ t.rest) _ refl refl refl c.requires.open c.requires.open t.more
          (λ out n h. subst (λ r. IsHistory c.remember.new.history.items (out ++ (fresh ++ r))) rest
          (c.in_ok-remember-in-Some.ensures out (omega (
            arith,
            n,
            c.next.ensures,
            c.saturating_sub-end.ensures,
            t.more.next_is,
            length-append fresh t.rest,
            ap length rest,
          )) h));
    }

pub returns-in-None : goal.returns-in-None
returns-in-None c =
    let t = subst (λ o. Takes c.args.at c.args.part.now (next_of c.args.self.now.window) (seen c.args.self.now.window) c.args.later.now.items o
    (next_of c.take.new.self) (seen c.take.new.self) c.take.new.later.items) c.in-None.is c.in_ok-fresh.ensures.taken in
    record {
      rest = [];
      is = t.2 ∙ sym (append-nil c.args.later.now.items);
      more = advance_lost c.args.at c.args.part.now c.args.self.now _ refl refl refl refl (c.close.ensures.next ∙ t.1) refl c.close.ensures.none t.0;
    }
