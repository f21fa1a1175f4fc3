use Rattle.std.proofs.Common.{refl}
use Rattle.bt_utp.specs.Near.{count_near}
use Rattle.bt_utp.specs.Ids.{is_alone}
use Rattle.bt_utp.proofs.ids.Ids.new.Goals as goal

pub returns : goal.returns
unfolding count_near is_alone
returns c = record { small = tt; alone = λ k. rw c.new.ensures.empty refl; count = refl }
