use Rattle.std.proofs.Common.{◌≡◌, ◌∙◌, ℕ, List, [], ◌++◌, append-nil, ap}
use Rattle.std.proofs.lemmas.Result.{on_err_weaker}
use Rattle.bt_talk.specs.Rooms.{rows_in}
use Rattle.bt_capture.proofs.InOrder.{no_rows}
use Rattle.bt_capture.proofs.telling.Teller.show.Goals as goal

pub returns-in-Ok-clause-told : goal.returns-in-Ok-clause-told
returns-in-Ok-clause-told c rows start now reports written t =
    c.hand_out.ensures.told start now reports written (c.show_rows.ensures.told rows start now reports written t)

pub returns-in-Ok-clause-kept : goal.returns-in-Ok-clause-kept
returns-in-Ok-clause-kept c =
    let old : List ℕ = c.args.self.now.text.items in
    on_err_weaker c.hand_out.result (λ kept stream h.
    let none : (rows_in c.args.room.now).text.items ≡ [] = h.text ∙ no_rows c.args.self.now.form h.rows stream in
    kept ∙ c.in-Ok.ensures.text ∙ ap (λ (l : List ℕ). old ++ l) none ∙ append-nil old) c.hand_out.ensures.kept
