use Rattle.std.proofs.Common.{◌≡◌, arith}
use Rattle.bt_ext.proofs.InPlace.{placed, unplaced}
use Rattle.bt_ext.proofs.table.push_place.Goals as goal

pub returns-in_ok-push-in-Some : goal.returns-in_ok-push-in-Some
returns-in_ok-push-in-Some g c = λ keeps.
    let es = c.args.entries.now in
    let on : c.args.id ≡ 0 → ⊥ = c.if-id-ne0.true in
    rw c.in_ok-push-in-Some.ensures.items (placed c.args.name.now c.args.id c.in-Some.i c.args.places.now.items es (omega arith) on c.in-Some.ensures)

pub returns-in-None : goal.returns-in-None
returns-in-None g c = λ keeps.
    unplaced c.args.name.now c.args.id c.args.places.now.items c.args.entries.now (omega arith) c.if-id-eq0.true c.in-None.ensures
