use Rattle.std.proofs.Common.{ap, ◌∙◌, Option}
use Rattle.std.specs.Prelude.{is_some}
use Rattle.bt_wire.specs.declared.item.Refusal.{Refusal}
use Rattle.bt_end.proofs.Sayings.{said}
use Rattle.bt_end.proofs.end.End.say.Goals as goal

pub returns : goal.returns
returns g c =
    said c.self.inside c.args.self.now c.is_some-refused.result c.args.message.now c.say.result c.say.new.self c.self.view_is
    (c.is_some-refused.ensures ∙ ap (λ (o : Option Refusal). is_some o) c.refusal.ensures) c.say.ensures
