use Rattle.std.proofs.Common.{◌∙◌, ℕ, ap, arith, replicate}
use Rattle.std.proofs.lemmas.List.{take-replicate}
use Rattle.bt_judge.proofs.zeros.zeros.Goals as goal

pub returns : goal.returns
returns c = take-replicate c.min.result 4096 0 (omega (arith, c.min.ensures)) ∙ ap (λ (k : ℕ). replicate k 0) c.min.ensures
