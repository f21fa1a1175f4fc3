use Rattle.std.proofs.Common.{◌≡◌, [], Option, Some, sym, subst}
use Rattle.bt_intro.specs.declared.settling.Receiver.{Receiver}
use Rattle.bt_rows.specs.declared.noted.Last.TheVariants.{Nothing}
use Rattle.bt_talk.specs.declared.stage.Judged.{Judged}
use Rattle.bt_talk.specs.Cuts.{IsCutBy}
use Rattle.bt_talk.specs.Replays.{Held, IsJudgedTo, IsReplayBy}
use Rattle.bt_talk.proofs.Replays.{last_to}
use Rattle.bt_talk.proofs.replay.last_of.Goals as goal

pub returns-in-Some : goal.returns-in-Some
returns-in-Some c = λ p receiver start taken xs i l.
    let j = c.deref.result.now in
    let by = subst (λ (k : Judged). (receiver ≡ Some k.receiver) × IsJudgedTo p start taken xs [] k) (sym c.deref.ensures)
    (subst (λ (k : Option Held). IsReplayBy p receiver start taken xs [] k) c.in-Some.is i) in
    subst (λ (k : Option Receiver). IsCutBy k p.front p.out c.last.result) (sym by.0)
    (last_to p start taken xs j c.last.result by.1 (c.last.ensures j.receiver.own taken xs by.1.bep by.1.judged l))

pub returns-in-None : goal.returns-in-None
returns-in-None c = λ p receiver start taken xs i l.
    let by = subst (λ (k : Option Held). IsReplayBy p receiver start taken xs [] k) c.in-None.is i in
    subst (λ (k : Option Receiver). IsCutBy k p.front p.out Nothing) (sym by.0) tt
