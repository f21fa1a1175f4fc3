use Rattle.std.proofs.Common.{◌≡◌, ℕ, ◌+◌, ◌++◌, min, List, [], length, drop, sym, ap, subst, ◌∙◌}
use Rattle.bt_capture.specs.Readings.{most, GoesOn}
use Rattle.bt_capture.proofs.Going.{reads_more}
use Rattle.bt_capture.proofs.Viewing.{read_more}
use Rattle.bt_capture.proofs.packets.Packets.read.Goals as goal

pub returns-clause-read : goal.returns-clause-read
returns-clause-read g c =
    let told = c.in_ok-count.ensures.read in
    let x = told.0 in
    let w = c.self.inside.walk in
    let old = c.args.self.now in
    let more : c.read.new.self ≡ drop w.at c.self.inside.buffer ++ x = told.2 ∙ ap (λ (b : List ℕ). b ++ x) c.drop_front.ensures in
    let sum : c.saturating_add-self-inside.result ≡ min (c.self.inside.bytes + length x) most =
    c.saturating_add-self-inside.ensures ∙ ap (λ (n : ℕ). min (c.self.inside.bytes + n) most) (sym told.1) in
    let is = read_more w c.self.inside.buffer c.read.new.self x c.self.inside.bytes c.saturating_add-self-inside.result old c.self.view_is more sum in
    (x, told.1, is, subst (λ s. GoesOn old x [] s) (sym is) (reads_more old x), told.3)
