use Rattle.std.proofs.Common.{◌≡◌, ◌∙◌, Bool, true, false, sym, ap, subst}
use Rattle.bt_talk.specs.declared.stage.Stage.{Stage}
use Rattle.bt_talk.specs.declared.direction.Direction.{Direction}
use Rattle.bt_talk.specs.declared.sides.Sides.{Sides}
use Rattle.bt_talk.specs.Cuts.{cut_length}
use Rattle.bt_talk.specs.Sent.{IsSent}
use Rattle.bt_talk.specs.Stages.{is_opening}
use Rattle.bt_talk.specs.Talks.{of_side}
use Rattle.bt_talk.specs.Replays.{HasOpened, IsOpenedBy}
use Rattle.bt_talk.proofs.Talks.{ended, cuts_same}
use Rattle.bt_talk.proofs.sides.Sides.open.Goals as goal

pub returns-clause-kept : goal.returns-clause-kept
returns-clause-kept c = λ a b t.
    let self = c.args.self.now in
    let of_a = c.in_ok-of_a.of_a in
    let of_b = c.in_ok-of_a.of_b in
    let rest = c.judge_opening.ensures.rest in
    let over = c.in_ok-of_a.ensures.open in
    let j = c.in_ok-of_a.ensures.judged a b t (sym c.is_opening.ensures ∙ c.if-not-is_opening.false) in
    ended c.args.terms.now a b self _ of_a of_b
    (subst (λ (d : Direction). IsOpenedBy d of_a c.open.new.self) (ap (λ (k : Sides). k.a) rest) c.open.ensures.opens)
    (subst (λ (d : Direction). IsOpenedBy d of_b c.open-2.new.self) (ap (λ (k : Sides). k.b) rest) c.open-2.ensures.opens) over.0 over.1 j.0 j.1 j.2.heard t

pub returns-clause-cuts : goal.returns-clause-cuts
returns-clause-cuts c = λ a b side t.
    let j = c.in_ok-of_a.ensures.judged a b t (sym c.is_opening.ensures ∙ c.if-not-is_opening.false) in
    cuts_same side c.args.self.now _ (ap cut_length c.open.ensures.opens.cut ∙ j.0.length)
    (ap cut_length c.open-2.ensures.opens.cut ∙ j.1.length)

pub returns-then-not-is_opening-clause-opened : goal.returns-then-not-is_opening-clause-opened
returns-then-not-is_opening-clause-opened c = λ a b t o. absurd (let e : true ≡ false = sym o ∙ sym c.is_opening.ensures ∙ c.if-not-is_opening.true in cc)

pub returns-clause-opened : goal.returns-clause-opened
returns-clause-opened c = λ a b t o.
    let self = c.args.self.now in
    let of_a = c.in_ok-of_a.of_a in
    let of_b = c.in_ok-of_a.of_b in
    let now = c.judge_opening.new.self in
    let j = c.in_ok-of_a.ensures.judged a b t o in
    let sa = c.open.ensures.opens.stage in
    let sb = c.open-2.ensures.opens.stage in
    subst (λ (s : Stage). HasOpened self.marks.items a b s c.open-2.new.self.stage now.watch self.watch.rows now.watch.rows) (sym sa)
    (subst (λ (s : Stage). HasOpened self.marks.items a b of_a.stage s now.watch self.watch.rows now.watch.rows) (sym sb) j.2)

pub returns-clause-open_already : goal.returns-clause-open_already
returns-clause-open_already c = λ o. absurd (let e : true ≡ false = sym (sym c.is_opening.ensures ∙ c.if-not-is_opening.false) ∙ o in cc)

pub returns-then-not-is_opening-clause-sent : goal.returns-then-not-is_opening-clause-sent
returns-then-not-is_opening-clause-sent c =
    λ a b side t o w e. absurd (let e : true ≡ false = sym o ∙ sym c.is_opening.ensures ∙ c.if-not-is_opening.true in cc)

pub returns-clause-sent : goal.returns-clause-sent
returns-clause-sent c = λ a b side t o w e.
    subst (λ (x : Bool). IsSent x (of_side side a b) c.hand_out.new.room.out.items)
    (sym (ap is_opening c.open.ensures.opens.stage ∙ c.in_ok-of_a.ensures.open.0)) (c.in_ok-hand_out.ensures.sent c.args.terms.now a b side t o w e)

pub returns-clause-room_already : goal.returns-clause-room_already
returns-clause-room_already c = λ o. absurd (let e : true ≡ false = sym (sym c.is_opening.ensures ∙ c.if-not-is_opening.false) ∙ o in cc)
