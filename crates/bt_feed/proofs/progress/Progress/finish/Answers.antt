use Rattle.std.proofs.Common.{ℕ, length, ap, arith, rules}
use Rattle.bt_feed.proofs.Found.{fault_at, early_has, place_fits}
use Rattle.bt_feed.proofs.progress.Progress.finish.Goals as goal

pub refusal-requires : goal.refusal-requires
refusal-requires c =
    let held = c.held-held.result.now in
    let stage = c.args.self.now.stage in
    let within = fault_at stage held c.in-Err.fault (early_has stage held c.in-Err.fault c.in-Err.ensures) in
    place_fits c.args.self.now c.args.buffer.now c.in-Err.fault.at c.requires (omega (arith, within, ap (length {A = ℕ}) c.held-held.ensures))

pub returns-in_default-stage : goal.returns-in_default-stage
returns-in_default-stage c = search rules
