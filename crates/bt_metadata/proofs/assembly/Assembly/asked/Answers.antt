use Rattle.std.proofs.Common.{count_by, ap, sym, ◌∙◌}
use Rattle.bt_metadata.specs.Assemblies.{AssemblyState, is_asked}
use Rattle.bt_metadata.proofs.Slots.{count_asked-slots}
use Rattle.bt_metadata.proofs.assembly.Assembly.asked.Goals as goal

pub returns : goal.returns
returns g c =
    let inside = c.self.inside in
    c.self.invariant.tallied.asked ∙ sym (count_asked-slots inside.states.items inside.bytes.whole)
    ∙ ap (λ (a : AssemblyState). count_by is_asked a.slots) c.self.view_is
