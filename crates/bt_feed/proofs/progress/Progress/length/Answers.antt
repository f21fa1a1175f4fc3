use Rattle.bt_feed.proofs.Filled.{wanted_more}
use Rattle.bt_feed.proofs.progress.Progress.length.Goals as goal

pub returns-else-self-eq0-clause-window : goal.returns-else-self-eq0-clause-window
returns-else-self-eq0-clause-window c = wanted_more c.args.self.now c.args.buffer.now c.args.piece.now c.requires.sound c.requires.fresh
