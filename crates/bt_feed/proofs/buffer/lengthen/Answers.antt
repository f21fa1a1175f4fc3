use Rattle.std.proofs.Common.{◌-◌, ◌++◌, ℕ, List, ◌∙◌, ap, arith, replicate, vec_len}
use Rattle.std.proofs.lemmas.List.{take_all}
use Rattle.bt_feed.proofs.buffer.lengthen.Goals as goal

pub returns-clause-items : goal.returns-clause-items
returns-clause-items g c =
    let old = c.args.bytes.now in
    let n = c.args.goal - vec_len old in (
      n,
      rw c.in-Ok.is at c.resize.ensures.items ∙ ap (λ (x : List ℕ). x ++ replicate n 0) (take_all c.args.goal old.items (omega (arith, old.ok.0))),
    )
