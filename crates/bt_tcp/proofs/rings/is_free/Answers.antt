use Rattle.std.proofs.Common.{◌≡◌, ◌+◌, ◌-◌, ap, ◌∙◌, arith}
use Rattle.std.proofs.lemmas.Bool.Decides.{nat_tests}
use Rattle.bt_tcp.specs.Cells.{slot_of}
use Rattle.bt_tcp.proofs.RingProofs.{unknown-runs}
use Rattle.bt_tcp.proofs.rings.is_free.Goals as goal

pub returns-then-end-from : goal.returns-then-end-from
returns-then-end-from c = λ t.
    let from = c.slot-from.result in
    let e : c.end-then-end-from.result ≡ c.args.count - c.min-fitting.result = grind (arith, nat_tests, t) in
    unknown-runs c.args.known.now c.args.head c.args.gap c.args.count from c.min-fitting.result (omega arith) (omega arith)
    (c.slot-from.ensures.slot ∙ ap (λ n. slot_of n c.args.head c.args.gap) c.requires.capacity) (omega (arith, c.min-fitting.ensures, c.requires.capacity))
    (λ j h. c.end.ensures.same (from + j) (omega arith) (omega (arith, c.if-end-from.true)))
    (λ j h. c.end-then-end-from.ensures.same j (omega arith) (omega (arith, e)))
