use Rattle.std.proofs.Common.{Some, ℕ, sym, ap, ◌∙◌, refl}
use Rattle.bt_ext.specs.Ids.{donthave_id}
use Rattle.bt_wire.specs.declared.context.Context.{Context}
use Rattle.bt_end.proofs.Sayings.{taken_back}
use Rattle.bt_end.proofs.reactor.Reactor.take_back.Goals as goal

pub returns-in-Ok : goal.returns-in-Ok
returns-in-Ok g c =
    let is = ap (λ (x : Context). donthave_id x.reg) (sym c.belief-belief.ensures) ∙ sym c.in-Some.ensures ∙ ap (λ (n : ℕ). Some n) (sym c.get.ensures.same) in
    taken_back _ _ c.get.result c.args.index refl c.in-Ok.ensures.ok is c.requires
