use Rattle.std.proofs.Common.{List, ap, subst, sym, ◌∙◌}
use Rattle.std.specs.List.{list_all}
use Rattle.bt_metadata.specs.Assemblies.{AssemblyState, is_settled}
use Rattle.bt_metadata.specs.declared.assembly.Status.{Status}
use Rattle.bt_metadata.specs.Sound.{settles, IsTallied}
use Rattle.bt_metadata.proofs.Slots.{all_settled-slots}
use Rattle.bt_metadata.proofs.assembly.Assembly.is_settled.Goals as goal

pub returns : goal.returns
returns g c =
    let inside = c.self.inside in
    c.is_settled.ensures ∙ ap (list_all settles) c.deref.ensures.value ∙ sym (all_settled-slots inside.states.items inside.bytes.whole)
    ∙ ap (λ (a : AssemblyState). list_all is_settled a.slots) c.self.view_is

pub is_settled-requires : goal.is_settled-requires
is_settled-requires g c = subst (λ (ss : List Status). IsTallied c.self.inside.tally ss) (sym c.deref.ensures.value) c.self.invariant.tallied
