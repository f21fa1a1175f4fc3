use Rattle.std.proofs.Common.{eqb, length, ap, ◌∙◌}
use Rattle.bt_metadata.specs.Sound.{holds}
use Rattle.bt_metadata.proofs.Counts.{count_all}
use Rattle.bt_metadata.proofs.assembly.Tally.is_whole.Goals as goal

pub returns : goal.returns
returns c = ap (λ n. eqb n (length c.args.states.now)) c.requires.held ∙ count_all holds c.args.states.now
