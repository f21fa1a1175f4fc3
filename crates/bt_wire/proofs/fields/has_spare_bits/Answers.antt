use Rattle.std.proofs.Common.{◌%◌, ℕ, eqb, not, ap, ◌∙◌}
use Rattle.bt_wire.proofs.SpareLaws.{spare_left}
use Rattle.bt_wire.proofs.fields.has_spare_bits.Goals as goal

pub returns-in-Some : goal.returns-in-Some
returns-in-Some c =
    ap (λ (n : ℕ). not (eqb (c.in-Some.last.now % n) 0)) c.spare_bound.ensures
    ∙ spare_left c.args.pieces c.args.field.now c.in-Some.last.now c.requires c.in-Some.ensures.item.3.0 (c.in-Some.ensures.item.3.1 0)
