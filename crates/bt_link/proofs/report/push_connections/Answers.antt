use Rattle.bt_link.proofs.Texts.{connections_more}
use Rattle.bt_link.proofs.report.push_connections.Goals as goal

pub connections-preserved : goal.connections-preserved
connections-preserved c =
    connections_more c.args.connections.now c.connections.i c.index-connections-i.result _ c.connections.text.items c.push_connection.new.text.items
    c.connections-test.true c.index-connections-i.is c.in_ok-push_connection.ensures c.connections.invariant
