use Rattle.std.proofs.Common.{◌≡◌, ◌+◌, ◌-◌, ◌*◌, ◌<◌, take, drop, length, get_or, get_or-take, get_or-drop, length-take, length-drop, sym, ap, ◌∙◌}
use Rattle.std.proofs.Common.{arith, inl, inr, refl}
use Rattle.std.proofs.lemmas.Bool.{cases_lt}
use Rattle.bt_tcp.proofs.bits.count_blocks.Goals as goal

pub loop-k-preserved : goal.loop-k-preserved
loop-k-preserved c = λ j h. elim (cases_lt j (c.loop-k.k * 32)) [
  | inl l ↦ c.loop-k.invariant j l
  | inr l ↦ (
      let bytes = c.args.bytes.now in
      let at = c.loop-k.k * 32 in
      let n = (c.loop-k.k + 1) * 32 - at in
      let i = j - at in
      let z : at + i ≡ j = omega arith in
      let m : i < n = omega arith in
      let w : i < length (take n (drop at bytes)) = omega (arith, length-take n (drop at bytes), length-drop at bytes, c.loop-k-test.true) in
      ap (λ x. get_or bytes x 0) (sym z) ∙ sym (get_or-take n (drop at bytes) i 0 m ∙ get_or-drop at bytes i 0)
      ∙ c.if-not-are_all.ensures refl i w)
]
