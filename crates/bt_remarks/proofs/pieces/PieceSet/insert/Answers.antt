use Rattle.std.proofs.Common.{◌∙◌, ap, arith}
use Rattle.bt_remarks.specs.Sets.{with_piece}
use Rattle.bt_remarks.proofs.SetProofs.{inserted}
use Rattle.bt_remarks.proofs.pieces.PieceSet.insert.Goals as goal

pub returns-clause-ok : goal.returns-clause-ok
returns-clause-ok c = λ k.
    inserted c.grow.new.self.field.items c.args.piece k c.index_mut.result.now (omega arith) (grind
    (arith, c.in_ok-grow.ensures.room)) c.index_mut.ensures.value ∙ ap (with_piece c.args.piece k) (c.grow.ensures.same k)
