use Rattle.std.proofs.Common.{◌∙◌}
use Rattle.bt_utp.proofs.Taking.{flows_are}
use Rattle.bt_utp.proofs.flows.UtpFlows.len.Goals as goal

pub returns : goal.returns
returns c ds are = c.len.ensures ∙ c.args.self.now.flows.ok.0 ∙ flows_are ds c.args.self.now.flows.items are.flows
