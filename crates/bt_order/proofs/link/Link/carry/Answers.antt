use Rattle.std.proofs.Common.{◌∙◌, ℕ, Option, ap, arith}
use Rattle.bt_order.specs.declared.link.Turned.{Turned}
use Rattle.bt_order.specs.Links.{segment}
use Rattle.bt_order.proofs.Links.{carries_own, sent_by, learns_counted}
use Rattle.bt_order.proofs.link.Link.carry.Goals as goal

pub returns-clause-ok : goal.returns-clause-ok
returns-clause-ok c =
    let mid = c.take_own.new.self in
    let t = c.in_ok-step.ensures.ok in
    let l = c.learn.ensures in
    let step = c.in_ok-step.step in
    record {
      step = step;
      taken = carries_own c.args.came.now c.args.room c.args.self.now c.args.out.now.items mid c.learn.new.self c.take_own.new.out.items
          step c.requires t l;
      turned =
          ap (λ (s : Turned). let r : Turned = record s { is_fin = step.is_fin; is_missing = step.is_missing } in r) c.segment-turned.ensures
          ∙ ap (λ (a : Option ℕ). let r : Turned = record (segment step.sequence a) {
            is_fin = step.is_fin;
            is_missing = step.is_missing;
          } in r) c.acked.ensures;
      sent = sent_by c.args.came.now c.args.room c.args.self.now c.args.out.now.items mid c.learn.new.self c.take_own.new.out.items step t l;
      answered = l.answered ∙ t.answered;
      syn = l.syn ∙ t.syn;
      reset = l.reset ∙ t.reset;
    }

pub returns-clause-counted : goal.returns-clause-counted
returns-clause-counted c = omega (arith, learns_counted c.args.came.now c.take_own.new.self c.learn.new.self c.learn.ensures, c.in_ok-step.ensures.counted)
