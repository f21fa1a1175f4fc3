use Rattle.std.proofs.Common.{◌≡◌, ◌∙◌, Bool, true, false, [], ◌∷◌, append-nil, refl, sym, subst}
use Rattle.bt_talk.specs.declared.replay.Mark.{Mark}
use Rattle.bt_talk.specs.Talks.{IsMarkedBy}
use Rattle.bt_talk.proofs.talk.Talk.keep_mark.Goals as goal
use Rattle.bt_talk.proofs.talk.Talk.keep_mark.Goals.{then-is_plain-via-then-is_plain, then-is_plain-via-else-is_plain+then-not-is_opening}

pub returns-then-is_plain-clause-marked : goal.returns-then-is_plain-clause-marked
returns-then-is_plain-clause-marked c = λ a b t.
    let self = c.args.self.now in (
      [],
      λ o. elim c.then-is_plain.branch [
        | then-is_plain-via-then-is_plain w ↦ subst (λ (x : Bool). IsMarkedBy x self.sides.watch.when c.args.side c.args.closed a b self [])
            (sym w.if-is_plain.true ∙ c.is_plain.ensures) refl
        | then-is_plain-via-else-is_plain+then-not-is_opening w ↦
            absurd (let e : true ≡ false = sym o ∙ sym w.is_opening.ensures ∙ w.if-not-is_opening.true in cc)
      ],
      sym (append-nil self.sides.marks.items),
    )

pub returns-clause-marked : goal.returns-clause-marked
returns-clause-marked c = λ a b t.
    let self = c.args.self.now in
    let m : Mark = c.mark-mark.result in (
      m ∷ [],
      λ o. subst (λ (x : Bool). IsMarkedBy x self.sides.watch.when c.args.side c.args.closed a b self (m ∷ [])) (sym c.if-is_plain.false ∙ c.is_plain.ensures)
          (m, refl, c.mark-mark.ensures a b t),
      c.in_ok-push.ensures.items,
    )
