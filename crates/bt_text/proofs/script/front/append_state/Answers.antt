use Rattle.std.proofs.Common.{arith, refl}
use Rattle.std.specs.Prelude.{codes}
use Rattle.bt_wire.specs.declared.ids.Needs.TheVariants.{Neither}
use Rattle.bt_wire.specs.declared.ids.Shape.TheVariants.{Nothing}
use Rattle.bt_wire.specs.declared.ids.Turn.TheVariants.{Counted}
use Rattle.bt_wire.specs.Ids.{Id, id}
use Rattle.bt_text.proofs.Fronts.{IsShortRow, alive_taken, bare_taken}
use Rattle.bt_text.proofs.script.front.append_state.Goals as goal

pub returns-in-Some-eq117-clause-added : goal.returns-in-Some-eq117-clause-added
returns-in-Some-eq117-clause-added c =
    let row : Id = id 1 (codes "unchoke") Nothing Neither Counted in
    let is : IsShortRow row Nothing = record { named = refl; shaped = refl; whole = refl; short = omega arith } in
    bare_taken row _ _ _ _ is c.append_bare.ensures.added

pub returns-in-Some-eq105-clause-added : goal.returns-in-Some-eq105-clause-added
returns-in-Some-eq105-clause-added c =
    let row : Id = id 2 (codes "interested") Nothing Neither Counted in
    let is : IsShortRow row Nothing = record { named = refl; shaped = refl; whole = refl; short = omega arith } in
    bare_taken row _ _ _ _ is c.append_bare-in-Some-eq105.ensures.added

pub returns-in-Some-eq110-clause-added : goal.returns-in-Some-eq110-clause-added
returns-in-Some-eq110-clause-added c =
    let row : Id = id 3 (codes "not-interested") Nothing Neither Counted in
    let is : IsShortRow row Nothing = record { named = refl; shaped = refl; whole = refl; short = omega arith } in
    bare_taken row _ _ _ _ is c.append_bare-in-Some-eq110.ensures.added

pub returns-in_ok-extend_from_slice-in-Some-clause-added : goal.returns-in_ok-extend_from_slice-in-Some-clause-added
returns-in_ok-extend_from_slice-in-Some-clause-added c = alive_taken _ _ _ _ c.in-Some.ensures c.in_ok-extend_from_slice-in-Some.ensures.items
