use Rattle.std.proofs.Common.{◌≡◌, false, refl}
use Rattle.bt_ext.specs.declared.ext.Ext.{Ext}
use Rattle.bt_wire.specs.Messages.{Message}
use Rattle.bt_wire.specs.declared.message.Message.TheVariants as m
use Rattle.bt_end.specs.Halves.{is_own_made}
use Rattle.bt_end.proofs.reactor.is_own_made.Goals as goal

not_extended : (msg : Message) → ((x : Ext) → msg ≡ m.Extended x → ⊥) → false ≡ is_own_made msg
not_extended (m.Extended x) h = absurd (h x refl)
not_extended other h = refl

pub returns-in_default : goal.returns-in_default
returns-in_default c = not_extended c.args.message.now c.in_default.not-Extended
