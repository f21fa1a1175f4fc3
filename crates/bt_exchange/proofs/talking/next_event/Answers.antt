use Rattle.std.proofs.Common.{Option, Ok, ap, ◌∙◌}
use Rattle.bt_end.specs.declared.end.Heard.{Heard}
use Rattle.bt_exchange.proofs.Nexts.{next_by}
use Rattle.bt_exchange.proofs.talking.next_event.Goals as goal

pub returns-in-Ok-Some : goal.returns-in-Ok-Some
returns-in-Ok-Some g c =
    next_by c.args.end.now _ c.next.result c.in-Ok-Some.heard (c.in-Ok-Some.is ∙ ap (λ (o : Option Heard). Ok o) c.in-Ok-Some.field-0-is)
    c.outgoing.ensures.feed c.next.ensures.heard c.next.follows.holds-at-none
