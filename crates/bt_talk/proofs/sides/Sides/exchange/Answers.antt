use Rattle.std.proofs.Common.{◌∙◌, ◌++◌, Bool, List, sym, ap, subst}
use Rattle.bt_remarks.specs.declared.events.Side.{Side}
use Rattle.bt_remarks.specs.declared.events.Side.TheVariants.{A, B}
use Rattle.bt_talk.specs.declared.sides.Sides.{Sides}
use Rattle.bt_talk.specs.declared.stage.Stage.{Stage}
use Rattle.bt_talk.specs.Pasts.{HasSent}
use Rattle.bt_talk.specs.Sent.{IsReady, is_wanted}
use Rattle.bt_talk.specs.Stages.{is_opening, AreItemsIn}
use Rattle.bt_talk.specs.Talks.{HasExchanged}
use Rattle.bt_talk.specs.Watching.{tell, with_items}
use Rattle.bt_talk.specs.Rows.{Shown}
use Rattle.bt_talk.specs.Shows.{Appends}
use Rattle.bt_talk.proofs.Items.{items_stay, opening_items}
use Rattle.bt_talk.proofs.Shown.{no_rows, nil_right}
use Rattle.bt_talk.specs.Cuts.{cut_length}
use Rattle.bt_talk.proofs.Saying.{says_by}
use Rattle.bt_talk.proofs.Talks.{acked_same, cuts_same}
use Rattle.bt_talk.proofs.sides.Sides.exchange.Goals as goal

pub returns-in_ok-turn-in-A-clause-taken : goal.returns-in_ok-turn-in-A-clause-taken
returns-in_ok-turn-in-A-clause-taken c =
    let self = c.args.self.now in
    let s = c.args.segment.now in
    let new : Sides = record self { a = c.turn.new.from; b = c.turn.new.to; watch = c.turn.new.watch } in
    subst (λ (k : Side). HasExchanged s k c.args.room.now c.turn.new.room self new) (sym c.in-A.is) (λ terms a b t.
    let x = c.in_ok-turn-in-A.ensures.taken terms a b t.a_is t.b_is t.stages in
    let r = x.0 in
    let m = x.1.2 (t.said.items A) t.said.a_items in
    let g = m.2 t.said.events t.said.items t.said.watched in
    let same = acked_same s b r.q' r.acked in
    let to = c.in_ok-turn-in-A.ensures.to in (
      record {
        a' = r.p';
        b' = r.q';
        is = record {
          a_is = r.p_is;
          b_is = r.q_is;
          stages = c.in_ok-turn-in-A.ensures.from ∙ t.stages ∙ sym (ap is_opening to);
          said = record {
            events = tell A x.1.0 m.0 t.said.events;
            items = with_items A m.0 t.said.items;
            a_items = m.1;
            b_items = subst (λ (k : Stage). AreItemsIn k r.q' (t.said.items B)) (sym to)
                (items_stay self.b.stage b r.q' (t.said.items B) same.0 same.1 t.said.b_items);
            watched = g.1.watched;
          };
        };
        sent = r.sent;
        acked = r.acked;
        stream = r.stream;
        noted = r.noted;
        said = says_by terms s A a b r.p' r.q' self new (t.said.items A) m.0 x.1.0 t t.said.a_items m.1 to same.0 same.1 x.1.1 m.2;
        shown = m.2;
      },
      x.2,
    ))

pub returns-in_ok-turn-in-B-clause-taken : goal.returns-in_ok-turn-in-B-clause-taken
returns-in_ok-turn-in-B-clause-taken c =
    let self = c.args.self.now in
    let s = c.args.segment.now in
    let new : Sides = record self { a = c.turn-in-B.new.to; b = c.turn-in-B.new.from; watch = c.turn-in-B.new.watch } in
    subst (λ (k : Side). HasExchanged s k c.args.room.now c.turn-in-B.new.room self new) (sym c.in-B.is) (λ terms a b t.
    let x = c.in_ok-turn-in-B.ensures.taken terms b a t.b_is t.a_is (sym t.stages) in
    let r = x.0 in
    let m = x.1.2 (t.said.items B) t.said.b_items in
    let g = m.2 t.said.events t.said.items t.said.watched in
    let same = acked_same s a r.q' r.acked in
    let to = c.in_ok-turn-in-B.ensures.to in (
      record {
        a' = r.q';
        b' = r.p';
        is = record {
          a_is = r.q_is;
          b_is = r.p_is;
          stages = ap is_opening to ∙ t.stages ∙ sym c.in_ok-turn-in-B.ensures.from;
          said = record {
            events = tell B x.1.0 m.0 t.said.events;
            items = with_items B m.0 t.said.items;
            a_items = subst (λ (k : Stage). AreItemsIn k r.q' (t.said.items A)) (sym to)
                (items_stay self.a.stage a r.q' (t.said.items A) same.0 same.1 t.said.a_items);
            b_items = m.1;
            watched = g.1.watched;
          };
        };
        sent = subst (λ (o : Bool). HasSent s o b self.b.flow r.p' c.turn-in-B.new.from.flow) (sym t.stages) r.sent;
        acked = r.acked;
        stream = r.stream;
        noted = r.noted;
        said = says_by terms s B a b r.q' r.p' self new (t.said.items B) m.0 x.1.0 t t.said.b_items m.1 to same.0 same.1 x.1.1 m.2;
        shown = m.2;
      },
      λ e. subst (λ (o : Bool). IsReady o (is_wanted B c.args.room.now.wanted) b r.p' c.turn-in-B.new.room.out.items) (sym t.stages) (x.2 e),
    ))

pub returns-in_ok-turn-in-A-clause-cuts : goal.returns-in_ok-turn-in-A-clause-cuts
returns-in_ok-turn-in-A-clause-cuts c = λ side.
    cuts_same side c.args.self.now _ (ap cut_length c.in_ok-turn-in-A.ensures.cut) (ap cut_length c.in_ok-turn-in-A.ensures.cut_to)

pub returns-in_ok-turn-in-B-clause-cuts : goal.returns-in_ok-turn-in-B-clause-cuts
returns-in_ok-turn-in-B-clause-cuts c = λ side.
    cuts_same side c.args.self.now _ (ap cut_length c.in_ok-turn-in-B.ensures.cut_to) (ap cut_length c.in_ok-turn-in-B.ensures.cut)

pub returns-in_ok-turn-in-A-clause-silent : goal.returns-in_ok-turn-in-A-clause-silent
returns-in_ok-turn-in-A-clause-silent c = λ terms a b t o.
    let self = c.args.self.now in
    let x = c.in_ok-turn-in-A.ensures.taken terms a b t.a_is t.b_is t.stages in
    let s = x.1.2 (t.said.items A) t.said.a_items in
    let g = s.2 t.said.events t.said.items t.said.watched in
    let all = opening_items c.turn.new.from.stage x.0.p' (t.said.items A ++ s.0) (c.in_ok-turn-in-A.ensures.from ∙ o) s.1 in
    subst (λ (l : List Shown). Appends l self.watch.rows c.turn.new.watch.rows)
    (no_rows self.watch.rows.heading self.watch.when A x.1.0 s.0 t.said.events g.0 (nil_right (t.said.items A) s.0 all) g.1.shown) g.2

pub returns-in_ok-turn-in-B-clause-silent : goal.returns-in_ok-turn-in-B-clause-silent
returns-in_ok-turn-in-B-clause-silent c = λ terms a b t o.
    let self = c.args.self.now in
    let x = c.in_ok-turn-in-B.ensures.taken terms b a t.b_is t.a_is (sym t.stages) in
    let s = x.1.2 (t.said.items B) t.said.b_items in
    let g = s.2 t.said.events t.said.items t.said.watched in
    let all = opening_items c.turn-in-B.new.from.stage x.0.p' (t.said.items B ++ s.0) (c.in_ok-turn-in-B.ensures.from ∙ (sym t.stages ∙ o)) s.1 in
    subst (λ (l : List Shown). Appends l self.watch.rows c.turn-in-B.new.watch.rows)
    (no_rows self.watch.rows.heading self.watch.when B x.1.0 s.0 t.said.events g.0 (nil_right (t.said.items B) s.0 all) g.1.shown) g.2
