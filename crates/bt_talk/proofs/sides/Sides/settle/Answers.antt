use Rattle.std.proofs.Common.{◌≡◌, ◌∙◌, ◌+◌, ◌-◌, ◌^◌, min, true, false, not, refl, sym, ap, arith}
use Rattle.bt_talk.specs.declared.sides.Sides.{Sides}
use Rattle.bt_talk.specs.Talks.{are_in_opening, of_side}
use Rattle.bt_talk.proofs.Sent.{sent_none}
use Rattle.bt_talk.proofs.Shown.{appends_none}
use Rattle.bt_talk.proofs.Talks.{end_same, both_same}
use Rattle.bt_talk.proofs.sides.Sides.settle.Goals as goal

pub returns-then-not-is_opening-clause-settles : goal.returns-then-not-is_opening-clause-settles
returns-then-not-is_opening-clause-settles c = λ a b t. record {
  is = t;
  opening = λ o. absurd (let e : true ≡ false = sym o ∙ sym c.is_opening.ensures ∙ c.if-not-is_opening.true in cc);
  counted = λ o. absurd (let e : true ≡ false = sym o ∙ sym c.is_opening.ensures ∙ c.if-not-is_opening.true in cc);
}

pub returns-then-not-is_over-clause-settles : goal.returns-then-not-is_over-clause-settles
returns-then-not-is_over-clause-settles c = λ a b t. record {
  is = record { a_is = t.a_is; b_is = t.b_is; stages = t.stages; said = t.said };
  opening = λ o.
      let i = c.is_over.ensures c.args.terms.now a b t.a_is t.b_is o (sym t.stages ∙ o) in
      let n : c.saturating_add-self.result ≡ min (c.args.self.now.segments + 1) (2 ^ 32 - 1) = omega (arith, c.saturating_add-self.ensures) in
      end_same a b c.saturating_add-self.result _ c.is_over.result _ n (c.if-not-is_over.true ∙ sym (ap not o)) i;
  counted = λ o. omega (arith, c.saturating_add-self.ensures);
}

pub returns-clause-settles : goal.returns-clause-settles
returns-clause-settles c = λ a b t. record {
  is = c.in_ok-open.ensures.kept a b (record { a_is = t.a_is; b_is = t.b_is; stages = t.stages; said = t.said });
  opening = λ o.
      let i = c.is_over.ensures c.args.terms.now a b t.a_is t.b_is o (sym t.stages ∙ o) in
      let n : c.saturating_add-self.result ≡ min (c.args.self.now.segments + 1) (2 ^ 32 - 1) = omega (arith, c.saturating_add-self.ensures) in
      end_same a b c.saturating_add-self.result _ c.is_over.result _ n (c.if-not-is_over.false ∙ sym (ap not c.in_ok-open.ensures.open)) i;
  counted = λ o.
      let n : c.saturating_add-self.result ≡ min (c.args.self.now.segments + 1) (2 ^ 32 - 1) = omega (arith, c.saturating_add-self.ensures) in
      c.in_ok-open.ensures.segments ∙ n;
}

pub returns-clause-cuts : goal.returns-clause-cuts
returns-clause-cuts c = λ a b side t.
    c.in_ok-open.ensures.cuts a b side (record { a_is = t.a_is; b_is = t.b_is; stages = t.stages; said = t.said })
    ∙ both_same side c.args.self.now _ refl refl

pub returns-clause-marks : goal.returns-clause-marks
returns-clause-marks c = λ o. absurd (let e : true ≡ false = sym o ∙ c.in_ok-open.ensures.open in cc)

pub returns-then-not-is_opening-clause-opened : goal.returns-then-not-is_opening-clause-opened
returns-then-not-is_opening-clause-opened c = λ a b t o. absurd (let e : true ≡ false = sym o ∙ sym c.is_opening.ensures ∙ c.if-not-is_opening.true in cc)

pub returns-then-not-is_over-clause-opened : goal.returns-then-not-is_over-clause-opened
returns-then-not-is_over-clause-opened c = λ a b t o. record {
  quiet = λ _. appends_none c.args.self.now.watch.rows;
  opened = λ n. absurd (let e : true ≡ false = sym o ∙ n in cc);
}

pub returns-clause-opened : goal.returns-clause-opened
returns-clause-opened c = λ a b t o. record {
  quiet = λ q. absurd (let e : true ≡ false = sym q ∙ c.in_ok-open.ensures.open in cc);
  opened = λ _. c.in_ok-open.ensures.opened a b (record { a_is = t.a_is; b_is = t.b_is; stages = t.stages; said = t.said }) o;
}

pub returns-then-not-is_opening-clause-sent : goal.returns-then-not-is_opening-clause-sent
returns-then-not-is_opening-clause-sent c =
    λ a b side t o w e. absurd (let e : true ≡ false = sym o ∙ sym c.is_opening.ensures ∙ c.if-not-is_opening.true in cc)

pub returns-then-not-is_over-clause-sent : goal.returns-then-not-is_over-clause-sent
returns-then-not-is_over-clause-sent c = λ a b side t o w e. sent_none (are_in_opening c.args.self.now) (of_side side a b) c.args.room.now.out.items o e

pub returns-clause-sent : goal.returns-clause-sent
returns-clause-sent c = λ a b side t o w e.
    c.in_ok-open.ensures.sent a b side (record { a_is = t.a_is; b_is = t.b_is; stages = t.stages; said = t.said }) o w e

pub returns-then-not-is_over-clause-stages : goal.returns-then-not-is_over-clause-stages
returns-then-not-is_over-clause-stages c = λ o. (refl, refl)

pub returns-clause-stages : goal.returns-clause-stages
returns-clause-stages c = λ o.
    let same = c.in_ok-open.ensures.open_already o in
    (ap (λ (k : Sides). k.a.stage) same, ap (λ (k : Sides). k.b.stage) same)

pub returns-clause-room_already : goal.returns-clause-room_already
returns-clause-room_already c = λ o. c.in_ok-open.ensures.room_already o
