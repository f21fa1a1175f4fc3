use Rattle.std.proofs.Common.{◌≡◌, ◌+◌, eqb, length, count_by, ap, ◌∙◌, arith}
use Rattle.bt_metadata.specs.Sound.{settles}
use Rattle.bt_metadata.proofs.Counts.{count_all, count-settled}
use Rattle.bt_metadata.proofs.assembly.Tally.is_settled.Goals as goal

pub returns : goal.returns
returns c =
    let ss = c.args.states.now in
    let both : c.args.self.now.held + c.args.self.now.rejected ≡ count_by settles ss = omega (arith, count-settled ss) in
    ap (λ n. eqb n (length ss)) both ∙ count_all settles ss
