use Rattle.std.proofs.Common.{[], refl}
use Rattle.bt_talk.proofs.Replays.{unjudged}
use Rattle.bt_talk.proofs.replay.Replay.none.Goals as goal

pub returns : goal.returns
returns c = λ p starts. record { begun = starts; start = 0; taken = []; is = unjudged p c.args.cut; place = refl; reached = refl }
