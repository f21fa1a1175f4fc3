use Rattle.std.proofs.Common.{rules, subst}
use Rattle.bt_metadata.specs.Sound.{IsAssembly}
use Rattle.bt_metadata.proofs.Parts.{is_assembly}
use Rattle.bt_metadata.proofs.assembly.Assembly.size.Goals as goal

pub returns-clause-assembly : goal.returns-clause-assembly
returns-clause-assembly g c =
    let inside = c.self.inside in
    let sound = c.self.invariant in
    subst IsAssembly c.self.view_is (is_assembly inside.info_hash inside.bytes.whole inside.states.items sound.least sound.most sound.count sound.asked)

pub returns-clause-value : goal.returns-clause-value
returns-clause-value g c = search rules
