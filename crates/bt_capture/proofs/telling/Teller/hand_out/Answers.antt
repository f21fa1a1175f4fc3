use Rattle.std.proofs.Common.{rules, ◌≡◌, refl, true, is_some}
use Rattle.bt_capture.specs.Forms.{is_stream, wanted_by}
use Rattle.bt_capture.proofs.InOrder.{bytes_more, wants_stream}
use Rattle.bt_capture.proofs.telling.Teller.hand_out.Goals as goal

pub returns-clause-told : goal.returns-clause-told
returns-clause-told c start now reports written t =
    let old = c.args.self.now in
    let wants : is_some (wanted_by old.form c.args.number) ≡ true = search rules in
    let stream : is_stream old.form ≡ true = wants_stream c.args.number old.form.stream wants in
    bytes_more start now old _ reports written c.sent.result.now stream c.in_ok-extend_from_slice.ensures.items refl refl refl refl t
