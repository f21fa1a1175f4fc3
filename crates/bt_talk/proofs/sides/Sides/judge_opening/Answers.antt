use Rattle.std.proofs.Common.{◌∙◌, [], List, refl, sym, ap, subst}
use Rattle.bt_remarks.specs.declared.events.Side.TheVariants.{A, B}
use Rattle.bt_talk.specs.declared.replay.Mark.{Mark}
use Rattle.bt_talk.specs.Replays.{HasOpened}
use Rattle.bt_talk.specs.Talks.{cut_in}
use Rattle.bt_talk.specs.Watching.{messages_of}
use Rattle.bt_talk.proofs.Items.{opening_items}
use Rattle.bt_talk.proofs.Shown.{seen_none, no_events}
use Rattle.bt_talk.proofs.sides.Sides.judge_opening.Goals as goal

pub returns-clause-judged : goal.returns-clause-judged
returns-clause-judged c = λ a b t o.
    let self = c.args.self.now in
    let ra = c.receiver_between-of_a.ensures.is a b t.a_is.intro t.b_is.intro in
    let rb = c.receiver_between-of_b.ensures.is b a t.b_is.intro t.a_is.intro in
    let x = c.in_ok-a.ensures c.args.terms.now a b o t.a_is ra in
    let y = c.in_ok-b.ensures c.args.terms.now b a (sym t.stages ∙ o) t.b_is rb in
    let no_a = opening_items self.a.stage a (t.said.items A) o t.said.a_items in
    let no_b = opening_items self.b.stage b (t.said.items B) (sym t.stages ∙ o) t.said.b_items in
    let none = no_events t.said.events ((t.said.watched.notes A).said ∙ ap messages_of no_a) ((t.said.watched.notes B).said ∙ ap messages_of no_b) in
    let both = c.in_ok-both.both in
    let w = c.judge_both.new.watch in
    let j = c.in_ok-both.ensures.judged self.watch.rows c.args.terms.now a b (record { receiver = c.receiver_between-of_a.result; cut = cut_in A self })
    (record { receiver = c.receiver_between-of_b.result; cut = cut_in B self }) ra rb
    (record {
      turns = [];
      are = refl;
      a_is = x;
      b_is = y;
      seen = seen_none t.said.events t.said.items self.watch none no_a no_b t.said.watched;
      latest = tt;
    }) in (
      j.0,
      j.1,
      subst (λ (l : List Mark). HasOpened l a b both.0.stage both.1.stage w self.watch.rows w.rows) c.deref.ensures.value j.2,
    )
