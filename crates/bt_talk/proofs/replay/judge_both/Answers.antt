use Rattle.std.proofs.Common.{◌∙◌, ℕ, List, [], ◌∷◌, append-nil, reverse, Option, refl, sym, subst}
use Rattle.bt_intro.specs.declared.settling.Receiver.{Receiver}
use Rattle.bt_remarks.specs.declared.events.Side.TheVariants.{A, B}
use Rattle.bt_wire.specs.declared.item.Item.{Item}
use Rattle.bt_talk.specs.declared.closing.When.{When}
use Rattle.bt_talk.specs.declared.replay.Mark.{Mark}
use Rattle.bt_talk.specs.Marks.{AreTurnsOf, IsLatest, reach_of}
use Rattle.bt_talk.specs.Replays.{AreReplayed, IsReplay}
use Rattle.bt_talk.specs.Shown.{items_by, told_by}
use Rattle.bt_talk.specs.Stages.{AreItemsIn, receiver_in}
use Rattle.bt_talk.proofs.Marks.{items_beside}
use Rattle.bt_talk.proofs.replay.judge_both.Goals as goal

pub returns-clause-judged : goal.returns-clause-judged
returns-clause-judged c = λ since terms p q x y ra rb i.
    let marks = reverse c.args.marks.now in
    let a = c.go_through.new.a in
    let b = c.go_through.new.b in
    let w = c.go_through.new.watch in
    let m = subst (λ (l : List Mark). AreReplayed since p q x y l a b w) (append-nil marks) (c.in_ok-go_through.ensures since p q x y [] i) in
    let f = c.in_ok-of_a.ensures.opened since terms p q x.receiver x.cut (reach_of A marks) m.turns ra m.a_is m.seen in
    let b_is = subst (λ (l : List (ℕ × Item)). IsReplay q y.receiver y.cut (reach_of B marks) l b) (sym (items_beside A f.turn m.turns f.side_is)) m.b_is in
    let g = c.in_ok-of_b.ensures.opened since terms q p y.receiver y.cut (reach_of B marks) (f.turn ∷ m.turns) rb b_is f.seen in
    let turns = g.turn ∷ f.turn ∷ m.turns in
    let s = c.in_ok-of_a.of_a.stage in
    let s' = c.in_ok-of_b.of_b.stage in
    let marked : AreTurnsOf p q (receiver_in s) (receiver_in s') marks m.turns =
    subst (λ (r : Option Receiver). AreTurnsOf p q r (receiver_in s') marks m.turns) (sym f.by)
    (subst (λ (r : Option Receiver). AreTurnsOf p q x.receiver r marks m.turns) (sym g.by) m.are) in (
      f.is,
      g.is,
      record {
        heard = record {
          events = told_by turns;
          items = λ side. items_by side turns;
          a_items = subst (λ (l : List (ℕ × Item)). AreItemsIn s p l) (sym (items_beside B g.turn (f.turn ∷ m.turns) g.side_is)) f.items_are;
          b_items = g.items_are;
          watched = g.seen.watched;
        };
        turns = turns;
        told = refl;
        items_are = λ _. refl;
        rows = g.seen.rows;
        appends = g.seen.appends;
        shown = g.seen.shown;
        opened_by = record {
          x = f.turn;
          y = g.turn;
          before = m.turns;
          is = refl;
          marked = marked;
          x_side = f.side_is;
          x_known = f.known;
          x_when = subst (λ (t : When). IsLatest marks t) (sym f.when) m.latest;
          x_items = f.items_are;
          x_deeds = f.deeds;
          y_side = g.side_is;
          y_known = g.known;
          y_when = subst (λ (t : When). IsLatest marks t) (sym (g.when ∙ f.now)) m.latest;
          y_items = g.items_are;
          y_deeds = g.deeds;
        };
      },
    )
