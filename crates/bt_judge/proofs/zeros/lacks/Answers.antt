use Rattle.std.proofs.Common.{◌≡◌, true, leb, length, arith}
use Rattle.std.proofs.lemmas.Bool.{le-leb}
use Rattle.bt_judge.proofs.zeros.lacks.Goals as goal

pub returns : goal.returns
returns c =
    let there : leb 13 (length c.args.held.now) ≡ true = le-leb 13 (length c.args.held.now) c.if-held-lt-BLOCK_AT.false in
    rw (there, c.if-held-ne-PIECE.false) (omega (arith, c.saturating_sub.ensures, c.number_at_front.ensures))
