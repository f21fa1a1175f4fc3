use Rattle.std.proofs.Common.{ap, refl}
use Rattle.bt_report.specs.declared.report.Report.{Report}
use Rattle.bt_capture.proofs.telling.Teller.report_on.Goals as goal

pub returns-in-Ok-clause-told : goal.returns-in-Ok-clause-told
returns-in-Ok-clause-told c =
    let r : Report = record { number = c.args.number; a = c.ends-ends.result.a; b = c.ends-ends.result.b; body = c.body_of-body.result } in (
      r,
      λ a b turns i heard. record {
        number = refl;
        end_a = ap (λ e. e.a) c.ends-ends.ensures;
        end_b = ap (λ e. e.b) c.ends-ends.ensures;
        body = c.body_of-body.ensures a b turns i heard;
      },
      c.in-Ok.ensures.told,
      c.in-Ok.ensures.text,
    )
