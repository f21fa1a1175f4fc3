use Rattle.std.proofs.Common.{rules, ◌≡◌, Some, true, refl}
use Rattle.bt_capture.specs.Following.{since}
use Rattle.bt_capture.proofs.Reported.{follows_same}
use Rattle.bt_capture.proofs.connections.Connections.end_quiet.Goals as goal

pub returns-in-Some-true-clause-goes : goal.returns-in-Some-true-clause-goes
returns-in-Some-true-clause-goes c start now clock came there packet within i =
    let over : c.is_over.result ≡ Some true = search rules in
    c.end.ensures.goes start now clock came c.args.when (c.is_over.ensures over) there packet within
    (follows_same (since start c.args.from) now came c.args.self.now.table c.args.self.now _ refl refl refl refl i)
