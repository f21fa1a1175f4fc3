use Rattle.std.proofs.Common.{◌≡◌, [], refl, Option, Some, None, sym, subst}
use Rattle.bt_intro.specs.declared.settling.Receiver.{Receiver}
use Rattle.bt_talk.specs.declared.stage.Judged.{Judged}
use Rattle.bt_talk.specs.Marks.{IsRefusedBy, upto}
use Rattle.bt_talk.specs.Replays.{Held, IsJudgedTo, IsReplayBy}
use Rattle.bt_talk.proofs.Replays.{judged_all, reached}
use Rattle.bt_talk.proofs.replay.Replay.refusal.Goals as goal

pub returns-in-Some : goal.returns-in-Some
returns-in-Some c = λ p receiver cut n xs i.
    let j = c.deref.result.now in
    let by = subst (λ (k : Judged). (receiver ≡ Some k.receiver) × IsJudgedTo (upto n p) i.start i.taken xs [] k) (sym c.deref.ensures)
    (subst (λ (k : Option Held). IsReplayBy (upto n p) receiver i.start i.taken xs [] k) c.in-Some.is (reached p receiver cut n xs c.args.self.now i)) in
    let k = (judged_all (upto n p) i.start i.taken xs j by.1).0 in
    subst (λ (o : Option Receiver). IsRefusedBy o (upto n p) c.refusal.result) (sym by.0)
    (k.start, k.first, c.refusal.ensures j.receiver.own _ k.free k.bep k.judged)

pub returns-in-None : goal.returns-in-None
returns-in-None c = λ p receiver cut n xs i.
    let by = subst (λ (k : Option Held). IsReplayBy (upto n p) receiver i.start i.taken xs [] k) c.in-None.is (reached p receiver cut n xs c.args.self.now i) in
    subst (λ (o : Option Receiver). IsRefusedBy o (upto n p) None) (sym by.0) refl
