use Rattle.std.proofs.Common.{◌≡◌, ◌+◌, ◌-◌, refl, sym, ◌∙◌, arith, inl, inr}
use Rattle.std.proofs.lemmas.Bool.{cases_lt}
use Rattle.bt_tcp.specs.Rings.{ahead}
use Rattle.bt_tcp.specs.History.{held}
use Rattle.bt_tcp.proofs.HistoryProofs.{conflicts-none, conflicts-apart, held-none, held_before, held_after}
use Rattle.bt_tcp.proofs.RingProofs.{ring-none}
use Rattle.bt_tcp.proofs.rings.Ring.count_conflicts_ahead.Goals as goal

pub returns-then-max-self : goal.returns-then-max-self
returns-then-max-self c = sym (conflicts-none (held c.args.self.now.next (ahead c.args.self.now c.args.known.now c.args.bytes.now)) c.args.at c.args.part.now
    (held-none c.args.self.now.next (ahead c.args.self.now c.args.known.now c.args.bytes.now) c.args.at
    (λ k h. ring-none c.args.known.now c.args.bytes.now c.args.self.now.head k (c.requires.sound.over k (omega arith)))))

pub returns-then-is_apart : goal.returns-then-is_apart
returns-then-is_apart c =
    let next = c.args.self.now.next in
    let cells = ahead c.args.self.now c.args.known.now c.args.bytes.now in
    sym (conflicts-apart (held next cells) c.args.at c.args.part.now (λ i a b. elim (cases_lt i next) [
      | inl l ↦ held_before next cells i l
      | inr l ↦ (
          let z : next + (i - next) ≡ i = omega arith in
          held_after next cells i l
          ∙ ring-none c.args.known.now c.args.bytes.now c.args.self.now.head (i - next) (c.if-is_apart.ensures refl (i - next) (omega arith) (omega arith)))
    ]))
