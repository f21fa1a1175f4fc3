use Rattle.std.proofs.Common.{◌≡◌, ◌∙◌, ap, length, subst, sym, arith}
use Rattle.bt_wire.specs.declared.fault.Header.TheVariants as headers
use Rattle.bt_feed.specs.declared.stage.Stage.{Stage}
use Rattle.bt_feed.specs.Stages.{HasFault}
use Rattle.bt_feed.specs.Progress.{HasWindow}
use Rattle.bt_feed.proofs.Found.{window_fault}
use Rattle.bt_feed.proofs.Windows.{window_waits}
use Rattle.bt_feed.proofs.progress.Progress.find.Goals as goal

pub returns-then-held-self : goal.returns-then-held-self
returns-then-held-self c = window_waits c.args.self.now.stage c.args.held.now c.args.self.now.wanted (c.requires.wanted c.if-self-gt0.true).0
    (omega (arith, c.if-held-self.true))

pub returns-in-Err : goal.returns-in-Err
returns-in-Err c =
    let held = c.args.held.now in
    let P : Stage → Type 0 = λ t. HasWindow t held c.args.self.now.wanted in
    let known = c.requires.wanted c.if-self-gt0.true in
    let window = subst P c.in-Message.is known.0 in
    let Q : Stage → Type 0 = λ t. HasFault t held c.in-Err.fault in
    let size : c.args.self.now.wanted ≡ length held = omega (arith, known.1, c.if-held-self.false) in
    subst Q (sym c.in-Message.is) (window_fault _ _ _ held _ window.0 (window.1 ∙ ap headers.Window size) c.in-Err.ensures.err)
