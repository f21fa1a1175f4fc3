use Rattle.std.proofs.Common.{◌∙◌, true, false, [], refl, sym, ap, inl, inr}
use Rattle.std.proofs.lemmas.Bool.{cases_Bool}
use Rattle.bt_talk.specs.declared.room.Room.{Room}
use Rattle.bt_talk.specs.declared.sides.Sides.{Sides}
use Rattle.bt_talk.specs.declared.talk.Talk.{Talk}
use Rattle.bt_talk.specs.declared.watch.Watch.{Watch}
use Rattle.bt_talk.specs.Talks.{are_in_opening, direction_in, is_in_opening, of_side}
use Rattle.bt_talk.proofs.Lent.{Alike, with_watch, talk_alike, opened_alike}
use Rattle.bt_talk.proofs.Shown.{appends_none, appends_same}
use Rattle.bt_talk.proofs.Sent.{sends_first, sends_nothing}
use Rattle.bt_talk.proofs.Talks.{both_same, flow_same, sides_same}
use Rattle.bt_talk.proofs.talk.Talk.end_opening.Goals as goal

pub returns-in-Ok-clause-kept : goal.returns-in-Ok-clause-kept
returns-in-Ok-clause-kept c = λ a b t.
    let self = c.args.self.now in
    let mine = c.swap_rows.ensures.mine in
    let back = c.swap_rows-2.ensures.mine in
    let u : Talk = record self { is_lost = true; sides = record self.sides { watch = c.swap_rows.new.self } } in
    let v : Talk = record u { sides = c.open-opened.new.self } in
    let w : Talk = record v { is_lost = false; sides = record v.sides { watch = c.swap_rows-2.new.self } } in
    let i : Alike self u = with_watch self true c.swap_rows.new.self (ap (λ (x : Watch). x.matcher) mine) (ap (λ (x : Watch). x.a) mine)
    (ap (λ (x : Watch). x.b) mine) in
    let k : Alike v w = with_watch v false c.swap_rows-2.new.self (ap (λ (x : Watch). x.matcher) back) (ap (λ (x : Watch). x.a) back)
    (ap (λ (x : Watch). x.b) back) in
    talk_alike a b v w k (c.in-Ok.ensures.kept a b (talk_alike a b self u i t))

pub returns-in-Ok-clause-cuts : goal.returns-in-Ok-clause-cuts
returns-in-Ok-clause-cuts c = λ a b side t.
    let self = c.args.self.now in
    let mine = c.swap_rows.ensures.mine in
    let u : Talk = record self { is_lost = true; sides = record self.sides { watch = c.swap_rows.new.self } } in
    let i : Alike self u = with_watch self true c.swap_rows.new.self (ap (λ (x : Watch). x.matcher) mine) (ap (λ (x : Watch). x.a) mine)
    (ap (λ (x : Watch). x.b) mine) in
    both_same side c.open-opened.new.self _ refl refl ∙ c.in-Ok.ensures.cuts a b side (talk_alike a b self u i t) ∙ both_same side self.sides u.sides refl refl

pub returns-in-Ok-clause-flows : goal.returns-in-Ok-clause-flows
returns-in-Ok-clause-flows c = λ side.
    let self = c.args.self.now in
    flow_same side c.open-opened.new.self _ refl refl ∙ c.in-Ok.ensures.flows side ∙ flow_same side self.sides _ refl refl

pub returns-in-Ok-clause-opened : goal.returns-in-Ok-clause-opened
returns-in-Ok-clause-opened c = λ a b t o.
    let self = c.args.self.now in
    let mine = c.swap_rows.ensures.mine in
    let back = c.swap_rows-2.ensures.mine in
    let u : Talk = record self { is_lost = true; sides = record self.sides { watch = c.swap_rows.new.self } } in
    let v : Talk = record u { sides = c.open-opened.new.self } in
    let i : Alike self u = with_watch self true c.swap_rows.new.self (ap (λ (x : Watch). x.matcher) mine) (ap (λ (x : Watch). x.a) mine)
    (ap (λ (x : Watch). x.b) mine) in
    opened_alike self.sides.marks.items a b v.sides.a.stage v.sides.b.stage v.sides.watch c.swap_rows-2.new.self c.args.room.now.rows c.swap_rows-2.new.rows
    u.sides.watch.rows v.sides.watch.rows
    (ap (λ (x : Watch). x.matcher) back) (ap (λ (x : Watch). x.a) back) (ap (λ (x : Watch). x.b) back) (ap (λ (x : Watch). x.rows) mine)
    (sym c.swap_rows-2.ensures.others) (c.in-Ok.ensures.opened a b (talk_alike a b self u i t) o)

pub returns-in-Ok-clause-open_already : goal.returns-in-Ok-clause-open_already
returns-in-Ok-clause-open_already c = λ o.
    c.swap_rows-2.ensures.others ∙ ap (λ (x : Sides). x.watch.rows) (c.in-Ok.ensures.open_already o) ∙ ap (λ (x : Watch). x.rows) c.swap_rows.ensures.mine

pub returns-in-Ok-clause-rows : goal.returns-in-Ok-clause-rows
returns-in-Ok-clause-rows c = λ a b t.
    elim (cases_Bool (is_in_opening c.args.self.now)) [
      | inl o ↦ let h = returns-in-Ok-clause-opened c a b t o in (h.rows, h.appends)
      | inr o ↦ (
        [],
        appends_same [] c.args.room.now.rows c.args.room.now.rows c.args.room.now.rows c.swap_rows-2.new.rows refl (returns-in-Ok-clause-open_already c o)
            (appends_none c.args.room.now.rows),
      )
    ]

pub returns-in-Ok-clause-sent : goal.returns-in-Ok-clause-sent
returns-in-Ok-clause-sent c = λ a b side t w.
    let self = c.args.self.now in
    let mine = c.swap_rows.ensures.mine in
    let u : Talk = record self { is_lost = true; sides = record self.sides { watch = c.swap_rows.new.self } } in
    let v : Talk = record u { sides = c.open-opened.new.self } in
    let i : Alike self u = with_watch self true c.swap_rows.new.self (ap (λ (x : Watch). x.matcher) mine) (ap (λ (x : Watch). x.a) mine)
    (ap (λ (x : Watch). x.b) mine) in
    let out = c.open-opened.new.room.out.items in
    elim (cases_Bool (is_in_opening self)) [
      | inl o ↦ sends_first (is_in_opening self) (is_in_opening v) (of_side side a b) (of_side side a b) out o
          (c.in-Ok.ensures.sent a b side (talk_alike a b self u i t) o w c.clear.ensures.items)
      | inr o ↦ sends_nothing (is_in_opening self) (is_in_opening v) (of_side side a b) out (ap are_in_opening (c.in-Ok.ensures.open_already o))
          (ap (λ (r : Room). r.out.items) (c.in-Ok.ensures.room_already o) ∙ c.clear.ensures.items)
    ]

pub returns-in-Ok-clause-directions : goal.returns-in-Ok-clause-directions
returns-in-Ok-clause-directions c = λ o side.
    let self = c.args.self.now in
    let same = c.in-Ok.ensures.open_already o in
    sides_same side c.open-opened.new.self _ refl refl ∙ ap (direction_in side) same ∙ sides_same side self.sides _ refl refl
