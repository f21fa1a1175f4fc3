use Rattle.std.proofs.Common.{◌≡◌, ◌∙◌, true, false, refl, sym, ap}
use Rattle.bt_talk.specs.declared.talk.Talk.{Talk}
use Rattle.bt_talk.specs.declared.watch.Watch.{Watch}
use Rattle.bt_talk.specs.Talks.{is_in_opening}
use Rattle.bt_talk.proofs.Lent.{Alike, AreMarked, alike_back, with_watch, opening_alike, talk_alike}
use Rattle.bt_talk.proofs.Lent.{takes_alike, shows_alike, settled_alike, some_rows}
use Rattle.bt_talk.proofs.talk.Talk.take.Goals as goal

pub returns-in-Ok-clause-all : goal.returns-in-Ok-clause-all
returns-in-Ok-clause-all c = λ a b t.
    let self = c.args.self.now in
    let u : Talk = record self { is_lost = true; sides = record self.sides { watch = c.come_to.new.self } } in
    let v = c.take_next-taken.new.self in
    let w : Talk = record v { is_lost = false; sides = record v.sides { watch = c.swap_rows-2.new.self } } in
    let watch : c.come_to.new.self ≡ record self.sides.watch { rows = c.args.room.now.rows; when = c.args.when } =
    c.come_to.ensures ∙ ap (λ (k : Watch). record k { when = c.args.when }) c.swap_rows.ensures.mine in
    let i : Alike self u = with_watch self true c.come_to.new.self (ap (λ (k : Watch). k.matcher) watch) (ap (λ (k : Watch). k.a) watch)
    (ap (λ (k : Watch). k.b) watch) in
    let back = c.swap_rows-2.ensures.mine in
    let k : Alike v w = with_watch v false c.swap_rows-2.new.self (ap (λ (x : Watch). x.matcher) back) (ap (λ (x : Watch). x.a) back)
    (ap (λ (x : Watch). x.b) back) in
    let same : AreMarked u self = record { marks = refl; courses = refl } in
    let same' : AreMarked v w = record { marks = refl; courses = refl } in
    let x = c.in-Ok.ensures.taken a b (ap (λ (k : Watch). k.when) watch) (talk_alike a b self u i t) in
    let still : is_in_opening self ≡ false → is_in_opening u ≡ false = λ o. sym (opening_alike u self (alike_back self u i)) ∙ o in
    record {
      took = takes_alike c.args.segment.now c.args.when a b u v self w (alike_back self u i) k same same' x.0;
      settled = λ o. settled_alike c.args.segment.now c.args.when a b self w u v c.args.room.now.rows c.swap_rows-2.new.rows u.sides.watch.rows v.sides.watch.rows
          (alike_back self u i) k same same' (ap (λ (x : Watch). x.rows) watch) (sym c.swap_rows-2.ensures.others) x.0 (x.1 o);
      shows = λ o. shows_alike _ self u c.args.room.now.rows c.swap_rows-2.new.rows u.sides.watch.rows v.sides.watch.rows i (ap (λ (x : Watch). x.rows) watch)
          (sym c.swap_rows-2.ensures.others) (x.3 (still o));
      sends = x.2 c.clear.ensures.items;
    }

pub returns-in-Ok-clause-taken : goal.returns-in-Ok-clause-taken
returns-in-Ok-clause-taken c = λ a b t. (returns-in-Ok-clause-all c a b t).took

pub returns-in-Ok-clause-rows : goal.returns-in-Ok-clause-rows
returns-in-Ok-clause-rows c = λ a b t.
    some_rows c.args.segment.now c.args.when a b c.args.self.now _ c.args.room.now.rows c.swap_rows-2.new.rows _ _ t (returns-in-Ok-clause-all c a b t)
