use Rattle.std.proofs.Common.{◌∙◌, ◌++◌, ℕ, List, ap, refl}
use Rattle.bt_capture.proofs.InOrder.{shown_more}
use Rattle.bt_capture.proofs.telling.Teller.show_rows.Goals as goal

pub returns-clause-told : goal.returns-clause-told
returns-clause-told c h start now reports written t =
    let old = c.args.self.now in
    let text = c.in_ok-extend_from_slice.ensures.items ∙ ap (λ (l : List ℕ). old.text.items ++ l) (c.rows.ensures ∙ h.text) in
    shown_more start now old _ reports written h.rows text refl refl refl refl t
