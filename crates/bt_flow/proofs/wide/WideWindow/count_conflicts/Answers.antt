use Rattle.std.proofs.Common.{refl, sym, ◌∙◌}
use Rattle.bt_tcp.specs.History.{held}
use Rattle.bt_flow.specs.Memory as ring
use Rattle.bt_flow.specs.Pages.{byte_of}
use Rattle.bt_flow.specs.Wide.{seen}
use Rattle.bt_flow.proofs.WideProofs.{conflicts_within, held_near}
use Rattle.bt_flow.proofs.wide.WideWindow.count_conflicts.Goals as goal

pub returns : goal.returns
returns c =
    let next = ring.next_of c.args.self.now.window in
    let near = ring.seen c.args.self.now.window in
    c.count_conflicts.ensures
    ∙ conflicts_within (held next near) (held next (seen c.args.self.now)) c.args.at c.args.part.now
    (λ i a b. sym (held_near next near (byte_of c.args.self.now.far.pages) i (c.if-touches.ensures refl i a b)))
