use Rattle.std.proofs.Common.{length, ap, ◌∙◌, rules}
use Rattle.bt_io.specs.Outbox.{Outgoing}
use Rattle.bt_end.proofs.Calls.{reset_sturdy}
use Rattle.bt_end.proofs.end.End.reset.Goals as goal

pub invariant_of-self : goal.invariant_of-self
invariant_of-self g c = reset_sturdy c.self.inside c.in_ok-feed.feed c.renew.new.self c.self.invariant c.renew.ensures.end
    (ap (λ (o : Outgoing). length o.bytes) c.renew.ensures.outbox ∙ c.in_ok-feed.ensures.length)

pub returns-clause-ok : goal.returns-clause-ok
returns-clause-ok g c = search rules
