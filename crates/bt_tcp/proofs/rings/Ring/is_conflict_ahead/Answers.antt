use Rattle.std.proofs.Common.{◌≡◌, ◌-◌, ◌<◌, get_or, not, eqb, Option, ℕ, sym, ap, ◌∙◌, arith}
use Rattle.bt_tcp.specs.Bits.{places, flag}
use Rattle.bt_tcp.specs.Cells.{slot_of}
use Rattle.bt_tcp.specs.Rings.{ahead}
use Rattle.bt_tcp.specs.History.{differs}
use Rattle.bt_tcp.proofs.HistoryProofs.{held_before, held_after}
use Rattle.bt_tcp.proofs.RingProofs.{ring-none, ring-some, known-at, known-past}
use Rattle.bt_tcp.proofs.rings.Ring.is_conflict_ahead.Goals.{then-place-self-via-then-place-self, then-place-self-via-else-place-self+then-place-self-2}
use Rattle.bt_tcp.proofs.rings.Ring.is_conflict_ahead.Goals as goal

pub returns-then-place-self : goal.returns-then-place-self
returns-then-place-self c =
    let cells : ℕ → Option ℕ = ahead c.args.self.now c.args.known.now c.args.bytes.now in
    sym (ap (λ o. differs o c.args.byte) (elim c.then-place-self.branch [
      | then-place-self-via-then-place-self w ↦ held_before c.args.self.now.next cells c.args.place (omega arith)
      | then-place-self-via-else-place-self+then-place-self-2 w ↦ held_after c.args.self.now.next cells c.args.place (omega arith)
          ∙ ring-none c.args.known.now c.args.bytes.now c.args.self.now.head (c.args.place - c.args.self.now.next)
          (known-past c.args.known.now c.args.self.now.head (c.args.place - c.args.self.now.next) (omega arith))
    ]))

pub returns-then-get : goal.returns-then-get
returns-then-get c =
    let k : ℕ = c.args.place - c.args.self.now.next in
    let l : k < places c.args.known.now = omega (arith, c.requires.fits.same) in
    let s : slot_of (places c.args.known.now) c.args.self.now.head k ≡ c.slot-i.result =
    sym (c.slot-i.ensures.slot ∙ ap (λ n. slot_of n c.args.self.now.head k) c.requires.fits.same) in
    sym (ap (λ o. differs o c.args.byte) (held_after c.args.self.now.next (ahead c.args.self.now c.args.known.now c.args.bytes.now) c.args.place (omega arith)
    ∙ ring-some c.args.known.now c.args.bytes.now c.args.self.now.head k
    (known-at c.args.known.now c.args.self.now.head k l ∙ ap (flag c.args.known.now) s ∙ sym c.get.ensures ∙ c.if-get.true))
    ∙ ap (λ i. not (eqb (get_or c.args.bytes.now i 0) c.args.byte)) s)

pub returns-else-get : goal.returns-else-get
returns-else-get c =
    let k : ℕ = c.args.place - c.args.self.now.next in
    let l : k < places c.args.known.now = omega (arith, c.requires.fits.same) in
    let s : slot_of (places c.args.known.now) c.args.self.now.head k ≡ c.slot-i.result =
    sym (c.slot-i.ensures.slot ∙ ap (λ n. slot_of n c.args.self.now.head k) c.requires.fits.same) in
    c.if-get.false ∙ sym (ap (λ o. differs o c.args.byte) (held_after c.args.self.now.next
    (ahead c.args.self.now c.args.known.now c.args.bytes.now) c.args.place (omega arith)
    ∙ ring-none c.args.known.now c.args.bytes.now c.args.self.now.head k
    (known-at c.args.known.now c.args.self.now.head k l ∙ ap (flag c.args.known.now) s ∙ sym c.get.ensures ∙ c.if-get.false)))
