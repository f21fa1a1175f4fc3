use Rattle.std.proofs.Common.{◌<◌, ◌≤◌, Option, sym, subst, rules}
use Rattle.std.specs.Prelude.{IfSome}
use Rattle.bt_metadata.specs.Blocks.{max_metadata}
use Rattle.bt_end.specs.Parts.{part_of}
use Rattle.bt_end.specs.declared.part.Progress.{Progress}
use Rattle.bt_end.proofs.Fetches.{progress_bounds}
use Rattle.bt_end.proofs.end.End.progress.Goals as goal

pub returns-clause-bounds : goal.returns-clause-bounds
returns-clause-bounds g c =
    let old = c.self.inside in
    subst (λ (o : Option Progress). IfSome o (λ p. (0 < p.size) × (p.size ≤ max_metadata) × (p.held ≤ p.blocks))) (sym c.progress.ensures)
    (progress_bounds old.reactor.handshake.info_hash (part_of old.reactor.part) c.self.invariant.part)

pub returns-clause-value : goal.returns-clause-value
returns-clause-value g c = search rules
