use Rattle.std.proofs.Common.{arith}
use Rattle.bt_talk.proofs.talk.Talk.reach.Goals as goal

pub returns : goal.returns
returns c = λ a b t. (c.start.result, c.start.ensures a b t, omega (arith, c.saturating_sub.ensures, c.unwrap_or-start.ensures, c.high.ensures a b t))
