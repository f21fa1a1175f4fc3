use Rattle.std.proofs.Common.{ap, ◌∙◌, ◌++◌}
use Rattle.bt_order.proofs.Taking.{takes_next}
use Rattle.bt_order.proofs.direction.Direction.go_on.Goals as goal

pub returns-clause-ok : goal.returns-clause-ok
returns-clause-ok c =
    takes_next c.args.payload.now c.args.self.now c.args.out.now.items c.append.new.self c.append.new.out.items c.drain.new.self c.drain.new.out.items
    c.settle.new.self c.requires.open (c.append.ensures.out ∙ ap (λ l. l ++ c.args.payload.now.bytes.now) c.in_ok-reserve.ensures.items)
    c.append.ensures.start c.append.ensures.found c.append.ensures.place c.append.ensures.passed c.drain.ensures.passes c.drain.ensures.none c.settle.ensures
