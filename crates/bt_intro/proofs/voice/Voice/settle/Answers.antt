use Rattle.std.proofs.Common.{refl}
use Rattle.bt_intro.proofs.voice.Voice.settle.Goals as goal

pub returns-clause-said : goal.returns-clause-said
returns-clause-said c = λ b h.
    let t = c.is_refused.ensures b h in
    record { items = t.0.items; read = (t.0, t.1, refl, t.3); heard = t.2 }
