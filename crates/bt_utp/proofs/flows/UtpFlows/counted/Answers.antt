use Rattle.std.proofs.Common.{◌≤◌, ◌<◌, ◌≡◌, get_or, length, List, subst}
use Rattle.bt_utp.specs.declared.flow.Flow.{Flow}
use Rattle.bt_utp.proofs.Taking.{told_at, told_past}
use Rattle.bt_utp.proofs.flows.UtpFlows.counted.Goals as goal

pub returns-in-Some : goal.returns-in-Some
returns-in-Some c ds are =
    let items = c.args.self.now.flows.items in
    let P : List Flow → Type 0 = λ l. (c.args.place < length l) × ((v : Flow) → c.in-Some.flow.now ≡ get_or l c.args.place v) in
    let there : P items = subst P c.deref.ensures.value c.in-Some.ensures.lookup.3 in
    told_at ds items c.args.place c.in-Some.flow.now c.counted.result are.flows there.0 there.1 c.counted.ensures

pub returns-in-None : goal.returns-in-None
returns-in-None c ds are =
    let P : List Flow → Type 0 = λ l. length l ≤ c.args.place in
    told_past ds c.args.self.now.flows.items c.args.place are.flows (subst P c.deref.ensures.value c.in-None.ensures.lookup.3)
