use Rattle.std.proofs.Common.{ℕ, List, refl, sym, subst, ap, ◌∙◌, arith}
use Rattle.bt_feed.specs.Progress.{HasWindow, IsProgress, Fills, IsGoal}
use Rattle.bt_feed.specs.declared.stage.Goal.TheVariants as goals
use Rattle.bt_feed.specs.Stages.{is_closed}
use Rattle.bt_feed.proofs.Filled.{partial_fresh, window_short, window_bound, window_more, window_fills, window_stops, progress_until, progress_window}
use Rattle.bt_feed.proofs.progress.Progress.step.Goals as goal

pub append_up_to-requires-in-Window-clause-held : goal.append_up_to-requires-in-Window-clause-held
append_up_to-requires-in-Window-clause-held g c =
    let buffer = c.args.buffer.now.items in
    let stage = c.args.self.now.stage in
    let P : List ℕ → Type 0 = λ b. HasWindow stage b c.in-Window.length in
    window_short stage buffer _ (partial_fresh _ _ c.requires.sound c.requires.fresh) (subst P c.as_slice.ensures c.in-Window.ensures)

pub append_up_to-requires-in-Window-clause-room : goal.append_up_to-requires-in-Window-clause-room
append_up_to-requires-in-Window-clause-room g c = omega (arith, (window_bound c.args.self.now.stage _ _ c.in-Window.ensures).1)

pub returns-in-Until-clause-sound : goal.returns-in-Until-clause-sound
returns-in-Until-clause-sound g c =
    let p = c.args.self.now in
    let buffer = c.args.buffer.now.items in
    let P : List ℕ → Type 0 = λ b. IsGoal p.stage b (goals.Until c.in-Until.count) in
    let h = subst P c.as_slice.ensures c.in-Until.ensures in
    let Q : List ℕ → Type 0 = λ b. IsProgress p b in
    subst Q (sym c.append_up_to.ensures.items)
    (progress_until p c.args.piece.now c.in-Until.count c.requires.sound
    (record { stage = refl; refused = refl; fresh = c.requires.fresh }) c.requires.fresh c.requires.unjudged h.0 h.1 h.2 c.append_up_to.ensures.count)

pub returns-in-Window-clause-fills : goal.returns-in-Window-clause-fills
returns-in-Window-clause-fills g c =
    let buffer = c.args.buffer.now.items in
    let stage = c.args.self.now.stage in
    let P : List ℕ → Type 0 = λ b. HasWindow stage b c.in-Window.length in
    let h = subst P c.as_slice.ensures c.in-Window.ensures in
    let le = window_short stage buffer _ (partial_fresh _ _ c.requires.sound c.requires.fresh) h in
    let Q : List ℕ → Type 0 = λ b. Fills stage buffer c.args.piece.now b c.append_up_to-in-Window.result in
    subst Q (sym c.append_up_to-in-Window.ensures.items) (window_fills stage buffer c.args.piece.now _ _ (window_more stage buffer c.args.piece.now _ h) le
    c.append_up_to-in-Window.ensures.count)

pub returns-in-Window-clause-stops : goal.returns-in-Window-clause-stops
returns-in-Window-clause-stops g c = λ _ lt.
    let buffer = c.args.buffer.now.items in
    let stage = c.args.self.now.stage in
    let P : List ℕ → Type 0 = λ b. HasWindow stage b c.in-Window.length in
    let h = subst P c.as_slice.ensures c.in-Window.ensures in
    let le = window_short stage buffer _ (partial_fresh _ _ c.requires.sound c.requires.fresh) h in
    ap (is_closed stage) c.append_up_to-in-Window.ensures.items ∙ window_stops stage buffer c.args.piece.now _ _
    (window_more stage buffer c.args.piece.now _ h) le c.append_up_to-in-Window.ensures.count lt

pub returns-in-Window-clause-sound : goal.returns-in-Window-clause-sound
returns-in-Window-clause-sound g c =
    let p = c.args.self.now in
    let buffer = c.args.buffer.now.items in
    let P : List ℕ → Type 0 = λ b. HasWindow p.stage b c.in-Window.length in
    let h = subst P c.as_slice.ensures c.in-Window.ensures in
    let le = window_short p.stage buffer _ (partial_fresh _ _ c.requires.sound c.requires.fresh) h in
    let q = record p { wanted = c.in-Window.length } in
    let Q : List ℕ → Type 0 = λ b. IsProgress q b in
    subst Q (sym c.append_up_to-in-Window.ensures.items)
    (progress_window q c.args.piece.now c.requires.sound
    (record { stage = refl; refused = refl; fresh = c.requires.fresh }) c.requires.fresh refl (window_more p.stage buffer c.args.piece.now _ h) le
    c.append_up_to-in-Window.ensures.count)
