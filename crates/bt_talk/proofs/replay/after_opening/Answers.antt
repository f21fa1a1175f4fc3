use Rattle.std.proofs.Common.{[], ℕ, List, Option, None, refl, sym, subst}
use Rattle.bt_intro.specs.declared.settling.Receiver.{Receiver}
use Rattle.bt_wire.specs.declared.item.Item.{Item}
use Rattle.bt_talk.specs.declared.replay.Close.{Close}
use Rattle.bt_talk.specs.Cuts.{IsCutNow}
use Rattle.bt_talk.specs.Receivers.{IsReceiver, AreItems}
use Rattle.bt_talk.specs.Replays.{Held, IsReplayOf, IsReplayBy}
use Rattle.bt_talk.proofs.Cuts.{cut_none}
use Rattle.bt_talk.proofs.Items.{judged_items}
use Rattle.bt_talk.proofs.Replays.{ended, judged_all}
use Rattle.bt_talk.proofs.replay.after_opening.Goals as goal

pub returns-in-Some-clause-opened : goal.returns-in-Some-clause-opened
returns-in-Some-clause-opened c = λ terms p q receiver cut start taken xs r i passed.
    let j = c.in-Some.judged.value in
    let o = c.cut_in-cut.result in
    let e = ended p receiver cut start taken xs c.args.judged o
    (subst (λ (k : Close). IsReplayOf p receiver cut start taken xs [] c.args.judged k) (c.cut_in-cut.ensures passed) i) in
    let by = subst (λ (k : Option Held). IsReplayBy p receiver start taken xs [] k) c.in-Some.is e.1 in
    let all = judged_all p start taken xs j by.1 in (
      record {
        stage = (subst (λ (k : Option Receiver). IsReceiver terms p q k) by.0 r, all.0);
        length = e.0;
        last = subst (λ (k : Option Receiver). IsCutNow k p.front p.out o) by.0 e.2;
      },
      subst (λ (l : List (ℕ × Item)). AreItems j.receiver.own p l) all.1 (judged_items j.receiver.own p j.judge all.0),
      sym by.0,
    )

pub returns-in-None-clause-opened : goal.returns-in-None-clause-opened
returns-in-None-clause-opened c = λ terms p q receiver cut start taken xs r i passed.
    let o = c.cut_in-cut.result in
    let e = ended p receiver cut start taken xs c.args.judged o
    (subst (λ (k : Close). IsReplayOf p receiver cut start taken xs [] c.args.judged k) (c.cut_in-cut.ensures passed) i) in
    let by = subst (λ (k : Option Held). IsReplayBy p receiver start taken xs [] k) c.in-None.is e.1 in (
      record {
        stage = subst (λ (k : Option Receiver). IsReceiver terms p q k) by.0 r;
        length = e.0;
        last = cut_none None p.front p.out o refl;
      },
      by.1,
      sym by.0,
    )
