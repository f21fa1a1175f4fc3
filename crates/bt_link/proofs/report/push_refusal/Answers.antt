use Rattle.std.proofs.Common.{◌∙◌}
use Rattle.std.specs.Prelude.{codes, decimal}
use Rattle.bt_link.proofs.Texts.{six}
use Rattle.bt_link.proofs.report.push_refusal.Goals as goal

pub returns : goal.returns
returns c =
    rw (← (c.as_bytes.ensures.value ∙ c.name.ensures.name))
    (rw (
      c.in_ok-extend_from_slice-4.ensures.items,
      c.in_ok-extend_from_slice-3.ensures.items,
      c.in_ok-push_number-2.ensures,
      c.in_ok-extend_from_slice-2.ensures.items,
      c.in_ok-push_number.ensures,
      c.in_ok-extend_from_slice.ensures.items,
    )
    (six c.args.text.now.items (codes "refused message=") (decimal c.args.refusal.message) (codes " at=") (decimal c.args.refusal.at) (codes " ")
    c.as_bytes.result.now))
