use Rattle.std.proofs.Common.{arith, refl}
use Rattle.std.specs.Prelude.{codes}
use Rattle.bt_wire.specs.declared.ids.Needs.TheVariants.{Neither, Fast}
use Rattle.bt_wire.specs.declared.ids.Shape.TheVariants.{Part}
use Rattle.bt_wire.specs.declared.ids.Turn.TheVariants.{Counted}
use Rattle.bt_wire.specs.Ids.{Id, id}
use Rattle.bt_text.proofs.Fronts.{IsShortRow, part_taken}
use Rattle.bt_text.proofs.script.front.append_request.Goals as goal

pub returns-in-Some-clause-added : goal.returns-in-Some-clause-added
returns-in-Some-clause-added c =
    let row : Id = id 6 (codes "request") Part Neither Counted in
    let is : IsShortRow row Part = record { named = refl; shaped = refl; whole = refl; short = omega arith } in
    part_taken row _ _ _ _ _ is c.in-Some.ensures c.append_part.ensures.added

pub returns-in-Some-after-clause-added : goal.returns-in-Some-after-clause-added
returns-in-Some-after-clause-added c =
    let row : Id = id 16 (codes "reject") Part Fast Counted in
    let is : IsShortRow row Part = record { named = refl; shaped = refl; whole = refl; short = omega arith } in
    part_taken row _ _ _ _ _ is c.in-Some-after.ensures c.append_part-in-Some-after.ensures.added
