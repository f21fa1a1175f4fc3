use Rattle.std.proofs.Common.{◌≡◌, Some, None, false, leb, length, subst, sym}
use Rattle.bt_wire.specs.declared.fault.Refused.{Refused}
use Rattle.bt_feed.specs.declared.stage.Stage.{Stage}
use Rattle.bt_feed.specs.Stages.{early, is_all}
use Rattle.bt_feed.proofs.Found.{early_need, early_window}
use Rattle.bt_feed.proofs.stage.Stage.early.Goals as goal

pub returns-in-Need : goal.returns-in-Need
returns-in-Need c =
    let P : Stage → Type 0 = λ t. (early t c.args.held.now ≡ None) × (is_all t c.args.held.now ≡ false) in
    subst P (sym c.in-Message.is) (early_need _ _ _ c.in-Message.number _ _ c.in-Need.ensures.0 c.in-Need.ensures.1)

pub returns-in-Window : goal.returns-in-Window
returns-in-Window c =
    let P : Stage → Type 0 = λ t. (early t c.args.held.now ≡ None) × (is_all t c.args.held.now ≡ leb c.in-Window.length (length c.args.held.now)) in
    subst P (sym c.in-Message.is) (early_window _ _ _ c.in-Message.number _ _ c.in-Window.ensures.0 c.in-Window.ensures.1)

pub returns-in-Refused : goal.returns-in-Refused
returns-in-Refused c =
    let fault : Refused = record { at = c.in-Refused.at; reason = c.in-Refused.reason } in
    let P : Stage → Type 0 = λ t. early t c.args.held.now ≡ Some fault in
    subst P (sym c.in-Message.is) c.in-Refused.ensures
