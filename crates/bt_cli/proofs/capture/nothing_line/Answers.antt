use Rattle.std.proofs.Common.{◌≡◌, ◌∙◌, ◌-◌, ℕ, ap, sym}
use Rattle.bt_cli.proofs.capture.nothing_line.Goals as goal

pub returns : goal.returns
returns c =
    let others = c.saturating_sub-others.ensures ∙ ap (λ (n : ℕ). c.args.end.now.skipped - n) c.count_unread.ensures in
    rw (sym others) (rw (sym c.in_ok-lines.ensures) c.format.ensures.ok)
