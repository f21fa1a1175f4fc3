use Rattle.std.proofs.Common.{◌≡◌, ◌+◌, ◌-◌, ◌*◌, ◌/◌, ◌<◌, drop, get_or, get_or-take, get_or-drop, length-take, sym, ap, ◌∙◌}
use Rattle.std.proofs.Common.{arith, inl, inr}
use Rattle.std.proofs.lemmas.Bool.{cases_lt}
use Rattle.bt_tcp.proofs.BitProofs.{flag-whole}
use Rattle.bt_tcp.proofs.bits.end_by_byte.Goals as goal

pub returns-clause-same : goal.returns-clause-same
returns-clause-same c = λ k a h. elim (cases_lt k ((c.args.at + c.count_bytes-count.result) * 8)) [
  | inr l ↦ c.end_by_flag.ensures.same k l h
  | inl l ↦ (
      let bits = c.args.bits.now in
      let at = c.args.at in
      let n = c.args.to / 8 - at in
      let i = k / 8 - at in
      let m : i < c.count_bytes-count.result = omega arith in
      let z : at + i ≡ k / 8 = omega arith in
      let w : i < n = omega (arith, c.count_bytes-count.ensures.within, length-take n (drop at bits)) in
      flag-whole bits k c.args.value (ap (λ x. get_or bits x 0) (sym z) ∙ sym (get_or-take n (drop at bits) i 0 w ∙ get_or-drop at bits i 0)
      ∙ c.count_bytes-count.ensures.same i m ∙ c.whole.ensures))
]
