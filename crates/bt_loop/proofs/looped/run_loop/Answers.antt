use Rattle.bt_io.specs.Seen.{EndRead}
use Rattle.bt_loop.proofs.LoopFetch.{loop_so}
use Rattle.bt_loop.proofs.looped.run_loop.Goals as goal

pub returns-in-Ok-clause-is_loop : goal.returns-in-Ok-clause-is_loop
returns-in-Ok-clause-is_loop g c =
    let old = g.R.Source.seen c.args.reader.now in
    let new = g.R.Source.seen c.read_metadata.new.reader in
    let input = c.in-Ok.ensures.input in
    loop_so old.left new.left (EndRead old new) _ _ c.args.rules c.args.limit c.in-Ok.metadata.items _ _ c.run_metadata.result input.0 input.1 input.2
    c.run_metadata.ensures.looped c.run_metadata.ensures.fetches
