use Rattle.std.proofs.Common.{rules}
use Rattle.bt_feed.proofs.progress.Progress.give.Goals as goal

pub returns-in-Ok-Some-clause-after : goal.returns-in-Ok-Some-clause-after
returns-in-Ok-Some-clause-after c = search rules

pub returns-in-Ok-Some-clause-sound : goal.returns-in-Ok-Some-clause-sound
returns-in-Ok-Some-clause-sound c = search rules
