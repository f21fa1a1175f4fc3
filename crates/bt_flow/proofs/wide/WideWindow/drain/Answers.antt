use Rattle.std.proofs.Common.{ap, subst, refl, sym, ◌∙◌, arith}
use Rattle.bt_flow.specs.Memory as ring
use Rattle.bt_flow.specs.Pages.{byte_of}
use Rattle.bt_flow.specs.Views.{HandsSome}
use Rattle.bt_flow.specs.Wide.{either_of, next_of, seen}
use Rattle.bt_flow.proofs.Windows.{hands_none}
use Rattle.bt_flow.proofs.WideProofs.{hands_both, hands_all}
use Rattle.bt_flow.proofs.WideCalls.{far_handed}
use Rattle.bt_flow.proofs.wide.WideWindow.drain.Goals as goal

pub put_through-requires : goal.put_through-requires
put_through-requires c = omega (arith, c.in-Some.ensures.last refl, c.next-next.ensures)

pub loop-byte-init : goal.loop-byte-init
loop-byte-init c = record { far = refl; none = c.requires.none; little = c.requires.held; some = hands_none _ _ _ }

pub loop-byte-preserved : goal.loop-byte-preserved
loop-byte-preserved c =
    let before = c.loop-byte.self in
    let after = c.put_through.new.self in
    let put = c.in_ok-put_through.ensures in
    let h = far_handed before.window c.next-next.result c.in-Some.byte (byte_of before.far.pages) c.loop-byte.later.items c.in_ok-put_through.field-0
    (ring.next_of after.window) (ring.seen after.window) c.put_through.new.later.items c.next-next.ensures (sym c.in-Some.ensures.is) put.put in
    record {
      far = put.far ∙ c.loop-byte.invariant.far;
      none = h.none;
      little = put.held h.is_true;
      some = hands_both (next_of c.args.self.now) (seen c.args.self.now) c.args.later.now.items (next_of before) (seen before) c.loop-byte.later.items
          (next_of after) (seen after) c.put_through.new.later.items c.loop-byte.invariant.some
          (subst (λ f. HandsSome (next_of before) (seen before) c.loop-byte.later.items (next_of after)
          (either_of (ring.seen after.window) (byte_of f.pages) (next_of after)) c.put_through.new.later.items) (sym put.far) h.some);
    }

pub loop-byte-smaller : goal.loop-byte-smaller
loop-byte-smaller c =
    let before = c.loop-byte.self in
    let after = c.put_through.new.self in
    let put = c.in_ok-put_through.ensures in
    let h = far_handed before.window c.next-next.result c.in-Some.byte (byte_of before.far.pages) c.loop-byte.later.items c.in_ok-put_through.field-0
    (ring.next_of after.window) (ring.seen after.window) c.put_through.new.later.items c.next-next.ensures (sym c.in-Some.ensures.is) put.put in
    omega (arith, h.grows, c.in-Some.ensures.below refl, ap (λ f. f.end) put.far)

pub returns-clause-drained : goal.returns-clause-drained
returns-clause-drained c =
    let w = c.loop-byte.self in
    hands_all (next_of c.args.self.now) (seen c.args.self.now) c.args.later.now.items (ring.next_of w.window) (ring.seen w.window) (byte_of w.far.pages)
    (byte_of c.forget.new.self.pages) c.loop-byte.later.items c.loop-byte.invariant.some c.loop-byte.invariant.none (sym c.next_far.ensures.is ∙ c.in_default.is)
    (λ i h. c.forget.ensures i (omega (arith, h, c.next-next-2.ensures)))
