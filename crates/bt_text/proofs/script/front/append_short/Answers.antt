use Rattle.std.proofs.Common.{arith, refl}
use Rattle.std.specs.Prelude.{codes}
use Rattle.bt_wire.specs.declared.ids.Needs.TheVariants.{Neither}
use Rattle.bt_wire.specs.declared.ids.Shape.TheVariants.{Index}
use Rattle.bt_wire.specs.declared.ids.Turn.TheVariants.{Counted}
use Rattle.bt_wire.specs.Ids.{Id, id}
use Rattle.bt_text.proofs.Fronts.{IsShortRow, index_taken}
use Rattle.bt_text.proofs.script.front.append_short.Goals as goal

pub returns-in-Some-clause-added : goal.returns-in-Some-clause-added
returns-in-Some-clause-added c =
    let row : Id = id 4 (codes "have") Index Neither Counted in
    let is : IsShortRow row Index = record { named = refl; shaped = refl; whole = refl; short = omega arith } in
    index_taken row _ _ _ _ _ is c.in-Some.ensures c.append_index.ensures.added
