use Rattle.std.proofs.Common.{List, ℕ, arith}
use Rattle.std.specs.Io.KnownBytes.{Consumes, Keeps}
use Rattle.bt_feed.proofs.Filled.{window_bound}
use Rattle.bt_feed.proofs.Lent.{grown, progress_read}
use Rattle.bt_feed.proofs.progress.Progress.read.Goals as goal

pub read-requires-clause-room : goal.read-requires-clause-room
read-requires-clause-room g c =
    let window = c.requires.sound.wanted (omega (arith, c.if-self-len.false)) in
    omega (arith, (window_bound c.args.self.now.place _ _ window.0).1, c.requires.room)

pub returns-clause-sound : goal.returns-clause-sound
returns-clause-sound g c =
    let left = (g.R.Source.seen c.args.reader.now).left in
    let left' = (g.R.Source.seen c.read.new.reader).left in
    let h = grown (λ (bytes : List ℕ). Consumes left left' bytes) (Keeps left left') c.read.result c.args.buffer.now.items c.read.new.self.items
    c.read.ensures.read c.read.ensures.err in
    progress_read c.args.self.now c.args.buffer.now.items c.read.new.self.items h.0 c.requires.sound c.if-self.false (omega (arith, c.if-self-len.false)) h.1
    (omega (arith, c.read.ensures.within, c.min-goal.ensures))
