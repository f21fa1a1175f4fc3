use Rattle.std.proofs.Common.{List, take, sym, ap, subst, ◌∙◌, length-take, arith}
use Rattle.bt_tcp.specs.declared.covered.Span.{Span}
use Rattle.bt_tcp.specs.Covered.{is_covered, AreApart}
use Rattle.bt_tcp.proofs.CoveredProofs.{add-apart, add-covers, table-add, table-alone}
use Rattle.bt_tcp.proofs.covered.Spans.add.Goals.{else-fit-via-then-fit+else-self-table, else-fit-via-else-fit}
use Rattle.bt_tcp.proofs.covered.Spans.add.Goals as goal

pub returns-then-self-table-clause-alone : goal.returns-then-self-table-clause-alone
returns-then-self-table-clause-alone c =
    table-alone (take c.args.self.now.count c.args.table.now) _ _ (record {
      from = c.args.from;
      to
          = c.args.to;
    }) _ c.requires.apart c.if-fit.true c.find_fit-fit.ensures.within c.find_fit-fit.ensures.added

pub returns-clause-sound : goal.returns-clause-sound
returns-clause-sound c =
    let s : Span = record { from = c.args.from; to = c.args.to } in
    let spans : List Span = take c.args.self.now.count c.args.table.now in
    let e = table-add c.args.table.now c.replace.new.table c.args.self.now.count _ _ s _ c.find_fit-fit.ensures.order c.find_fit-fit.ensures.within
    c.find_fit-fit.ensures.added c.replace.ensures in
    record {
      fits = elim c.else-fit.branch [
        | else-fit-via-then-fit+else-self-table w ↦ omega (
          arith,
          c.requires.fits,
          c.find_fit-fit.ensures.within,
          c.find_fit-fit.ensures.order,
          length-take c.args.self.now.count c.args.table.now,
        )
        | else-fit-via-else-fit w ↦ omega (
          arith,
          c.requires.fits,
          c.find_fit-fit.ensures.within,
          c.find_fit-fit.ensures.order,
          length-take
              c.args.self.now.count c.args.table.now,
        )
      ];
      apart = subst (λ x. AreApart 0 x) (sym e) (add-apart 0 s spans c.requires.apart (omega arith) (omega arith));
    }

pub returns-clause-added : goal.returns-clause-added
returns-clause-added c =
    let s : Span = record { from = c.args.from; to = c.args.to } in
    let spans : List Span = take c.args.self.now.count c.args.table.now in
    let e = table-add c.args.table.now c.replace.new.table c.args.self.now.count _ _ s _ c.find_fit-fit.ensures.order c.find_fit-fit.ensures.within
    c.find_fit-fit.ensures.added c.replace.ensures in
    λ i. ap (λ x. is_covered x i) e ∙ add-covers 0 s spans c.requires.apart (omega arith) i
