use Rattle.std.proofs.Common.{arith, refl}
use Rattle.std.specs.Prelude.{codes}
use Rattle.bt_wire.specs.declared.ids.Needs.TheVariants.{Neither}
use Rattle.bt_wire.specs.declared.ids.Shape.TheVariants.{Nothing, Part}
use Rattle.bt_wire.specs.declared.ids.Turn.TheVariants.{Counted}
use Rattle.bt_wire.specs.Ids.{Id, id}
use Rattle.bt_text.proofs.Fronts.{IsShortRow, bare_taken, part_taken}
use Rattle.bt_text.proofs.script.front.append_cancel.Goals as goal

pub returns-in-Some-clause-added : goal.returns-in-Some-clause-added
returns-in-Some-clause-added c =
    let row : Id = id 8 (codes "cancel") Part Neither Counted in
    let is : IsShortRow row Part = record { named = refl; shaped = refl; whole = refl; short = omega arith } in
    part_taken row _ _ _ _ _ is c.in-Some.ensures c.append_part.ensures.added

pub returns-in-None-clause-added : goal.returns-in-None-clause-added
returns-in-None-clause-added c =
    let row : Id = id 0 (codes "choke") Nothing Neither Counted in
    let is : IsShortRow row Nothing = record { named = refl; shaped = refl; whole = refl; short = omega arith } in
    bare_taken row _ _ _ _ is c.append_bare.ensures.added
