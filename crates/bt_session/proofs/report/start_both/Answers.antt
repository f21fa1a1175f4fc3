use Rattle.std.proofs.Common.{List, [], sym, subst}
use Rattle.bt_session.specs.MessageLinks as M
use Rattle.bt_session.specs.Reports.{AreConnectionsOf}
use Rattle.bt_session.specs.declared.run.Connection.{Connection}
use Rattle.bt_session.proofs.report.start_both.Goals as goal

pub returns-clause-link : goal.returns-clause-link
returns-clause-link c = record {
  left = c.in_ok-left.ensures.node;
  right = c.in_ok-right.ensures.node;
  past = subst (λ (cs : List Connection). AreConnectionsOf cs []) (sym c.new.ensures.items) tt;
}
