use Rattle.std.proofs.Common.{arith, refl}
use Rattle.std.specs.Prelude.{codes}
use Rattle.bt_wire.specs.declared.ids.Needs.TheVariants.{Fast}
use Rattle.bt_wire.specs.declared.ids.Shape.TheVariants.{Nothing}
use Rattle.bt_wire.specs.declared.ids.Turn.TheVariants.{Opening}
use Rattle.bt_wire.specs.Ids.{Id, id}
use Rattle.bt_text.proofs.Fronts.{IsShortRow, bare_taken, id_taken}
use Rattle.bt_text.proofs.script.front.append_all.Goals as goal

pub returns-in-Some-clause-added : goal.returns-in-Some-clause-added
returns-in-Some-clause-added c =
    let row : Id = id 14 (codes "have-all") Nothing Fast Opening in
    let is : IsShortRow row Nothing = record { named = refl; shaped = refl; whole = refl; short = omega arith } in
    id_taken row _ _ _ _ _ is c.in-Some.ensures c.append_id.ensures.added

pub returns-in-None-clause-added : goal.returns-in-None-clause-added
returns-in-None-clause-added c =
    let row : Id = id 15 (codes "have-none") Nothing Fast Opening in
    let is : IsShortRow row Nothing = record { named = refl; shaped = refl; whole = refl; short = omega arith } in
    bare_taken row _ _ _ _ is c.append_bare.ensures.added
