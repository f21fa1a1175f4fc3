use Rattle.std.proofs.Common.{◌≡◌, ◌∙◌, ℕ, Option, ap}
use Rattle.bt_flow.specs.Flows.{high_in}
use Rattle.bt_talk.specs.declared.direction.Direction.{Direction}
use Rattle.bt_packet.specs.declared.tcp.Flags.{Flags}
use Rattle.bt_talk.specs.Closing.{opens_by}
use Rattle.bt_talk.specs.Strays.{heeded}
use Rattle.bt_talk.specs.Talks.{of_side, flow_of}
use Rattle.bt_talk.proofs.Talks.{found}
use Rattle.bt_talk.proofs.talk.Talk.opens_again.Goals as goal

pub returns : goal.returns
returns c = λ a b t.
    let side = c.sender-side.result in
    let p = of_side side a b in
    let d = found c.args.self.now.terms side a b c.args.self.now.sides c.direction.result.now c.direction.ensures t in
    let high = c.high.ensures p.heard p.segs p.out d.flow in
    let opening = c.opening.ensures p.heard p.segs p.out d.flow in
    let s = c.args.segment.now in
    let stray = c.is_stray_reset-stray.result in
    let flags : Flags = heeded stray s.flags in
    let now : c.high.result ≡ high_in p.heard (flow_of side c.args.self.now).stream =
    high ∙ ap (λ (x : Direction). high_in p.heard x.flow.stream) c.direction.ensures in (
      side,
      c.sender-side.ensures,
      (
        stray,
        c.is_stray_reset-stray.ensures a b t,
        c.opens.ensures ∙ ap (λ (f : Flags). opens_by f c.high.result c.opening.result s.sequence) c.heeded-flags.ensures
            ∙ ap (λ (n : ℕ). opens_by flags n c.opening.result s.sequence) now
            ∙ ap (λ (o : Option ℕ). opens_by flags (high_in p.heard (flow_of side c.args.self.now).stream) o s.sequence) opening,
      ),
    )
