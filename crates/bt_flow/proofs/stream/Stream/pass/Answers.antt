use Rattle.std.proofs.Common.{◌+◌, [], ap, refl, subst, ◌∙◌, arith}
use Rattle.bt_tcp.specs.History.{IsHistory}
use Rattle.bt_flow.proofs.Streams.{newest, passes_hole}
use Rattle.bt_flow.proofs.stream.Stream.pass.Goals as goal

pub returns : goal.returns
returns c =
    let p = c.in_ok-pass.ensures.passed in
    passes_hole c.args.count c.args.self.now c.args.later.now.items _ c.pass.new.later.items refl (ap (λ n. n + c.args.count) c.next-next.ensures) refl
    c.requires.open c.requires.open p
    (subst (IsHistory c.remember.new.memory.items)
    (newest c.deref.result.now c.args.later.now.items p.more c.len-before.result (c.deref.ensures.value ∙ p.is) (omega (arith, c.len-before.ensures)))
    (c.in_ok-remember.ensures [] refl (λ k h l. absurd (omega (arith, h)))))
