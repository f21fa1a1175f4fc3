use Rattle.std.proofs.Common.{refl, arith, length, [], ℕ, ◌≤◌, ◌+◌}
use Rattle.bt_intro.proofs.Searching.{hello_fits}
use Rattle.bt_intro.proofs.introduction.Introduction.new.Goals as goal

pub returns : goal.returns
returns c = record { all = refl; voiced = λ j near at. let fits : j + 20 ≤ length {A = ℕ} [] = hello_fits [] j at in absurd (omega arith) }
