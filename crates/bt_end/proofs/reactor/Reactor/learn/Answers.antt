use Rattle.std.proofs.Common.{refl, ap, Some, None}
use Rattle.bt_ext.specs.Tables.{Entries}
use Rattle.bt_end.specs.Reactors.{end_of, learned}
use Rattle.bt_end.proofs.reactor.Reactor.learn.Goals as goal

pub returns-in-Some-clause-end : goal.returns-in-Some-clause-end
returns-in-Some-clause-end g c =
    rw c.in-Some.is (λ next is. ap (λ (x : Entries). learned (end_of c.args.self.now) x (Some c.in-Some.assembly)) (c.update.ensures next is))

pub returns-in-Some-clause-outbox : goal.returns-in-Some-clause-outbox
returns-in-Some-clause-outbox g c = refl

pub returns-in_default-clause-end : goal.returns-in_default-clause-end
returns-in_default-clause-end g c =
    rw c.in_default.is (λ next is. ap (λ (x : Entries). learned (end_of c.args.self.now) x None) (c.update.ensures next is))

pub returns-in_default-clause-outbox : goal.returns-in_default-clause-outbox
returns-in_default-clause-outbox g c = refl
