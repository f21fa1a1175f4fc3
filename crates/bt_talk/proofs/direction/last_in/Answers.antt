use Rattle.std.proofs.Common.{ℕ, List, drop, sym, subst}
use Rattle.bt_wire.specs.declared.item.Item.{Item}
use Rattle.bt_rows.specs.declared.noted.Last.TheVariants.{Nothing}
use Rattle.bt_talk.specs.declared.stage.Judged.{Judged}
use Rattle.bt_talk.specs.declared.stage.Stage.{Stage}
use Rattle.bt_talk.specs.Cuts.{IsCutBy, IsLastOf}
use Rattle.bt_talk.specs.Receivers.{IsJudgedBy, AreItems}
use Rattle.bt_talk.specs.Stages.{IsStage, AreItemsIn, receiver_in}
use Rattle.bt_talk.specs.Watching.{IsLast}
use Rattle.bt_talk.proofs.Items.{items_only, judged_items}
use Rattle.bt_talk.proofs.direction.last_in.Goals as goal

pub returns-in-Open : goal.returns-in-Open
returns-in-Open c = λ terms p other xs s i l.
    let j = c.deref.result.now in
    let own = j.receiver.own in
    let by = subst (λ (k : Judged). IsJudgedBy k.receiver.own p k.judge) (sym c.deref.ensures)
    (subst (λ (k : Stage). IsStage terms p other k) c.in-Open.is s).1 in
    let are = subst (λ (k : Judged). AreItems k.receiver.own p xs) (sym c.deref.ensures) (subst (λ (k : Stage). AreItemsIn k p xs) c.in-Open.is i) in
    let same = items_only own p xs by.free by.judged.bep.limit are (judged_items own p j.judge by) in
    subst (λ (k : Stage). IsCutBy (receiver_in k) p.front p.out c.last.result) (sym c.in-Open.is)
    (subst (λ (k : Judged). IsLastOf k.receiver.own p.front p.out c.last.result) c.deref.ensures (record {
      start = by.start;
      first = by.first;
      is = c.last.ensures own (drop by.start p.out) by.free by.bep by.judged (subst (λ (zs : List (ℕ × Item)). IsLast zs c.args.item.now) same l);
    }))

pub returns-in-Opening : goal.returns-in-Opening
returns-in-Opening c = λ terms p other xs s i l.
    subst (λ (k : Stage). IsCutBy (receiver_in k) p.front p.out Nothing) (sym c.in-Opening.is) tt

pub returns-in-Stranger : goal.returns-in-Stranger
returns-in-Stranger c = λ terms p other xs s i l.
    subst (λ (k : Stage). IsCutBy (receiver_in k) p.front p.out Nothing) (sym c.in-Stranger.is) tt
