use Rattle.std.proofs.Common.{◌≡◌, ◌∙◌, ◌-◌, ℕ, Bool, true, is_some, refl, sym, ap, subst}
use Rattle.std.specs.Prelude.{◌||◌, option_map, unwrap_or}
use Rattle.bt_rows.specs.declared.parts.Means.{Means}
use Rattle.bt_talk.specs.Marks.{AreMarkDeeds}
use Rattle.bt_talk.specs.Shown.{no_deeds}
use Rattle.bt_talk.proofs.Shown.{appends_none, deeds_by, deeds_shown}
use Rattle.bt_talk.proofs.replay.Replay.show.Goals as goal
use Rattle.bt_talk.proofs.replay.Replay.show.Goals.{then-is_some, else-is_some}

pub returns-then-not-is_torrent-clause-deeds : goal.returns-then-not-is_torrent-clause-deeds
returns-then-not-is_torrent-clause-deeds c = λ p q x y n k m xs ys i j before.
    let mine = is_some c.args.self.now.start in
    let theirs = is_some c.args.theirs.now.start in
    let begun : c.if-is_some.is_torrent ≡ (mine || theirs) = elim c.if-is_some.branch [
      | then-is_some w ↦
          let f : (mine || theirs) ≡ true = ap (λ (b : Bool). b || theirs) (sym c.is_some.ensures ∙ w.if-is_some.true) in
          let g = w.is_torrent-is in
          let h = w.if-is_some.true in cc
      | else-is_some w ↦
          let f : (mine || theirs) ≡ theirs = ap (λ (b : Bool). b || theirs) (sym c.is_some.ensures ∙ w.if-is_some.false) in
          let g = w.is_torrent-is in
          let h = w.is_some-is_torrent.ensures in cc
    ] in (
      no_deeds,
      c.if-is_some.is_torrent,
      (c.args.self.now.start, c.args.theirs.now.start, i.begun, j.begun, begun),
      subst (λ (b : Bool). AreMarkDeeds b x.receiver m n p c.args.mark.now no_deeds) (sym c.if-not-is_torrent.true) refl,
      appends_none c.args.watch.now.rows,
    )

pub returns-clause-deeds : goal.returns-clause-deeds
returns-clause-deeds c = λ p q x y n k m xs ys i j before.
    let w0 = c.args.watch.now in
    let mark = c.args.mark.now in
    let start = c.args.self.now.start in
    let mine = is_some start in
    let theirs = is_some c.args.theirs.now.start in
    let offset = c.saturating_sub-offset.result in
    let begun : c.if-is_some.is_torrent ≡ (mine || theirs) = elim c.if-is_some.branch [
      | then-is_some w ↦
          let f : (mine || theirs) ≡ true = ap (λ (b : Bool). b || theirs) (sym c.is_some.ensures ∙ w.if-is_some.true) in
          let g = w.is_torrent-is in
          let h = w.if-is_some.true in cc
      | else-is_some w ↦
          let f : (mine || theirs) ≡ theirs = ap (λ (b : Bool). b || theirs) (sym c.is_some.ensures ∙ w.if-is_some.false) in
          let g = w.is_torrent-is in
          let h = w.is_some-is_torrent.ensures in cc
    ] in
    let deeds = deeds_by c.args.before c.refusal.result offset mark.closed in
    let place : offset ≡ mark.high - unwrap_or start 0 = c.saturating_sub-offset.ensures ∙ ap (λ (l : ℕ). mark.high - l) c.unwrap_or-start.ensures in (
      deeds,
      c.if-is_some.is_torrent,
      (start, c.args.theirs.now.start, i.begun, j.begun, begun),
      subst (λ (b : Bool). AreMarkDeeds b x.receiver m n p mark deeds) (sym c.if-not-is_torrent.false) (
        (c.args.before, c.refusal.result, before, c.refusal.ensures p x.receiver x.cut n xs i, refl),
        start,
        i.begun,
        ap (λ (l : ℕ). option_map (λ (by : Means). (l, by)) mark.closed) place,
      ),
      deeds_shown w0.rows c.show.new.self.rows w0.rows.heading w0.when mark.side c.args.before c.refusal.result offset mark.closed
          c.in_ok-show.ensures.rows,
    )
