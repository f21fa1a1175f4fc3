use Rattle.std.proofs.Common.{◌∙◌, ℕ, sym, ap, subst}
use Rattle.bt_judge.specs.Holes.{free_by, MayBeAnyByBoth}
use Rattle.bt_judge.proofs.Holes.{judge_any}
use Rattle.bt_judge.proofs.judge.Judge.free.Goals as goal

pub returns-in-Some-clause-any : goal.returns-in-Some-clause-any
returns-in-Some-clause-any c = λ own b xs ys j.
    let P : ℕ → Type 0 = λ n. MayBeAnyByBoth own b n in
    subst P (ap (free_by c.args.self.now.bep) c.in-Some.is ∙ sym c.free.ensures.exact) (judge_any own b xs ys c.args.self.now j)

pub returns-in-None-clause-any : goal.returns-in-None-clause-any
returns-in-None-clause-any c = λ own b xs ys j.
    let P : ℕ → Type 0 = λ n. MayBeAnyByBoth own b n in
    subst P (ap (free_by c.args.self.now.bep) c.in-None.is ∙ sym c.free-in-None.ensures.exact) (judge_any own b xs ys c.args.self.now j)
