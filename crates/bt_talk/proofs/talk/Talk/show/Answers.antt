use Rattle.std.proofs.Common.{◌≡◌, ◌∙◌, true, false, Bool, refl, sym, subst}
use Rattle.bt_talk.specs.declared.direction.Direction.{Direction}
use Rattle.bt_talk.specs.Shown.{no_deeds}
use Rattle.bt_talk.specs.Stages.{IsRefusedIn}
use Rattle.bt_talk.specs.Talks.{AreDeedsBy, of_side}
use Rattle.bt_remarks.specs.Said.{other}
use Rattle.bt_talk.proofs.Shown.{appends_none, deeds_by, deeds_shown}
use Rattle.bt_talk.proofs.Talks.{found}
use Rattle.bt_talk.proofs.talk.Talk.show.Goals as goal

pub returns-then-is_opening-clause-deeds : goal.returns-then-is_opening-clause-deeds
returns-then-is_opening-clause-deeds c = λ o. absurd (let e : true ≡ false = sym c.if-is_opening.true ∙ c.is_opening.ensures ∙ o in cc)

pub returns-then-not-is_torrent-clause-deeds : goal.returns-then-not-is_torrent-clause-deeds
returns-then-not-is_torrent-clause-deeds c = λ o.
    let self = c.args.self.now in (
      no_deeds,
      appends_none self.sides.watch.rows,
      λ a b t. (
        c.is_torrent.result,
        c.is_torrent.ensures a b t,
        subst (λ (x : Bool). AreDeedsBy x c.args.side c.args.before c.args.closed a b self no_deeds) (sym c.if-not-is_torrent.true) refl,
      ),
    )

pub returns-clause-deeds : goal.returns-clause-deeds
returns-clause-deeds c = λ o.
    let self = c.args.self.now in
    let w = self.sides.watch in
    let side = c.args.side in
    let deeds = deeds_by c.args.before c.refusal-now.result c.reach-offset.result c.args.closed in (
      deeds,
      deeds_shown w.rows c.show.new.self.rows w.rows.heading w.when side c.args.before c.refusal-now.result c.reach-offset.result c.args.closed
          c.in_ok-show.ensures.rows,
      λ a b t.
          let d = found self.terms side a b self.sides c.direction.result.now c.direction.ensures t in
          let refused = subst (λ (x : Direction). IsRefusedIn x.stage (of_side side a b) c.refusal-now.result) c.direction.ensures
          (c.refusal-now.ensures self.terms (of_side side a b) (of_side (other side) a b) d) in (
            c.is_torrent.result,
            c.is_torrent.ensures a b t,
            subst (λ (x : Bool). AreDeedsBy x side c.args.before c.args.closed a b self deeds) (sym c.if-not-is_torrent.false)
                (c.refusal-now.result, c.reach-offset.result, refused, c.reach-offset.ensures a b t, refl),
          ),
    )

pub returns-clause-opening : goal.returns-clause-opening
returns-clause-opening c = λ o. absurd (let e : true ≡ false = sym o ∙ sym c.is_opening.ensures ∙ c.if-is_opening.false in cc)
