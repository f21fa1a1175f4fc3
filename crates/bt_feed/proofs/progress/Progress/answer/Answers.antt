use Rattle.std.proofs.Common.{ℕ, length, ap, arith}
use Rattle.bt_feed.proofs.Found.{fault_at, place_fits}
use Rattle.bt_feed.proofs.progress.Progress.answer.Goals as goal

pub refusal-requires : goal.refusal-requires
refusal-requires c =
    place_fits c.args.self.now c.args.buffer.now _ c.requires (omega (arith, fault_at _ _ _ c.in-Err.ensures, ap (length {A = ℕ}) c.held.ensures))
