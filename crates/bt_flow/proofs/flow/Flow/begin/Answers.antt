use Rattle.bt_flow.proofs.Flows.{base_begun, begins_new}
use Rattle.bt_flow.proofs.flow.Flow.begin.Goals as goal

pub returns-in_ok-new-in-None-clause-begins : goal.returns-in_ok-new-in-None-clause-begins
returns-in_ok-new-in-None-clause-begins c = begins_new c.args.at c.args.self.now c.args.self.now.stream _ c.in-None.is
    c.in_ok-new-in-None.ensures.taken c.in_ok-new-in-None.ensures.open c.in_ok-new-in-None.ensures.conflicts
    (λ heard h. base_begun heard c.base.result c.args.at c.unwrap_or-base.result _
    (c.base.ensures heard h) c.unwrap_or-base.ensures c.in_ok-new-in-None.ensures.base)
