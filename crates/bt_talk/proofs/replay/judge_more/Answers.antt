use Rattle.std.proofs.Common.{◌≡◌, ◌++◌, [], Option, Some, refl, sym, subst}
use Rattle.bt_talk.specs.declared.stage.Judged.{Judged}
use Rattle.bt_talk.specs.Replays.{Held, IsJudgedTo, IsReplayBy}
use Rattle.bt_talk.proofs.Items.{nothing_more}
use Rattle.bt_talk.proofs.Replays.{judged_on}
use Rattle.bt_talk.proofs.replay.judge_more.Goals as goal

pub returns-in_ok-judge_bytes-in-Some : goal.returns-in_ok-judge_bytes-in-Some
returns-in_ok-judge_bytes-in-Some c = λ p receiver start taken xs left i.
    let j = c.deref_mut.result.now in
    let now = subst (λ (k : Judged). (receiver ≡ Some k.receiver) × IsJudgedTo p start taken xs (c.args.bytes.now ++ left) k)
    (sym c.deref_mut.ensures.value)
    (subst (λ (o : Option Held). IsReplayBy p receiver start taken xs (c.args.bytes.now ++ left) o) c.in-Some.is i) in
    let t = c.in_ok-judge_bytes-in-Some.ensures j.receiver.own taken xs now.1.bep now.1.judged in (
      t.0,
      (now.0, judged_on p start taken xs t.0 (c.args.bytes.now ++ left) c.args.bytes.now left j c.judge_bytes.new.judge now.1 t.1 refl t.2),
      t.3,
    )

pub returns-in-None : goal.returns-in-None
returns-in-None c = λ p receiver start taken xs left i.
    let now = subst (λ (o : Option Held). IsReplayBy p receiver start taken xs (c.args.bytes.now ++ left) o) c.in-None.is i in (
      [],
      subst (λ (o : Option Held). IsReplayBy p receiver start (taken ++ c.args.bytes.now) (xs ++ []) left o) (sym c.in-None.is)
          (now.0, nothing_more xs now.1),
      refl,
    )
