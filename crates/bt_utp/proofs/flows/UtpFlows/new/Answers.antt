use Rattle.std.proofs.Common.{refl, subst, sym, []}
use Rattle.bt_utp.specs.Flows.{firsts, kept}
use Rattle.bt_utp.specs.States.{AreFlows, place}
use Rattle.bt_utp.proofs.flows.UtpFlows.new.Goals as goal

pub returns : goal.returns
unfolding firsts kept place
returns c = record { flows = subst (AreFlows [] []) (sym c.new.ensures.items) tt; places = λ a b. rw c.new-2.ensures.empty refl; ids = refl }
