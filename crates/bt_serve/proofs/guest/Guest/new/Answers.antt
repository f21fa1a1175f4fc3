use Rattle.bt_serve.proofs.Tallies.{served_first}
use Rattle.bt_serve.proofs.guest.Guest.new.Goals as goal

pub returns-clause-served : goal.returns-clause-served
returns-clause-served g c = served_first c.args.hospitality.now c.args.pieces c.args.metadata.now.value.items (g.L.Connection.seen c.args.link)
    (g.L.Connection.seen c.now-since.new.self)
    c.in_ok-hearing.hearing c.in_ok-end.end c.now-since.result c.now-since.ensures c.in_ok-hearing.ensures c.in_ok-end.ensures
