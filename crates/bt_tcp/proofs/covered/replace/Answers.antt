use Rattle.std.proofs.Common.{◌≡◌, ◌+◌, ◌-◌, take, set, sym, ap, ◌∙◌, arith}
use Rattle.std.specs.List.{copy_within}
use Rattle.bt_tcp.proofs.CoveredProofs.{replaced, copied-here}
use Rattle.bt_tcp.proofs.covered.replace.Goals.{then-to-from, else-to-from}
use Rattle.bt_tcp.proofs.covered.replace.Goals as goal

pub returns : goal.returns
returns c =
    let moved : c.if-to-from.table ≡ copy_within c.args.table.now c.args.to c.args.count (c.args.from + 1) = elim c.if-to-from.branch [
      | then-to-from w ↦ w.table-is ∙ w.copy_within.ensures.after
      | else-to-from w ↦ w.table-is ∙ sym (copied-here c.args.table.now c.args.count c.args.from c.args.to (omega arith))
    ] in
    ap (λ t. take (c.args.from + 1 + (c.args.count - c.args.to)) (set t c.args.from c.args.span)) moved
    ∙ replaced c.args.table.now c.args.count c.args.from c.args.to c.args.span c.requires.order c.requires.inside c.requires.count c.requires.room
