use Rattle.bt_feed.proofs.Committed.{committed}
use Rattle.bt_feed.proofs.progress.Progress.commit.Goals as goal

pub returns-clause-sound : goal.returns-clause-sound
returns-clause-sound c = (committed c.args.self.now c.args.buffer.now c.args.next c.requires.sound c.requires.item).1
