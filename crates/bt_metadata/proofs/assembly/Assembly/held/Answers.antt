use Rattle.std.proofs.Common.{count_by, ap, sym, ◌∙◌}
use Rattle.bt_metadata.specs.Assemblies.{AssemblyState, is_held}
use Rattle.bt_metadata.proofs.Slots.{count_held-slots}
use Rattle.bt_metadata.proofs.assembly.Assembly.held.Goals as goal

pub returns : goal.returns
returns g c =
    let inside = c.self.inside in
    c.self.invariant.tallied.held ∙ sym (count_held-slots inside.states.items inside.bytes.whole)
    ∙ ap (λ (a : AssemblyState). count_by is_held a.slots) c.self.view_is
