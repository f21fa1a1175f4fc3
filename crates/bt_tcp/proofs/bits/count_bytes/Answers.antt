use Rattle.std.proofs.Common.{◌≡◌, ◌+◌, ◌-◌, ◌*◌, get_or, get_or-drop, sym, ap, ◌∙◌, arith, inl, inr}
use Rattle.std.proofs.lemmas.Bool.{cases_lt}
use Rattle.bt_tcp.proofs.Puts.{take_rest}
use Rattle.bt_tcp.proofs.bits.count_bytes.Goals as goal

pub returns-clause-same : goal.returns-clause-same
returns-clause-same c = λ k h. elim (cases_lt k (c.count_blocks-blocks.result * 32)) [
  | inl l ↦ c.count_blocks-blocks.ensures.same k l
  | inr l ↦ (
      let bytes = c.args.bytes.now in
      let at = c.count_blocks-blocks.result * 32 in
      let i = k - at in
      let z : at + i ≡ k = omega arith in
      ap (λ x. get_or bytes x 0) (sym z) ∙ sym (ap (λ x. get_or x i 0) (take_rest at bytes) ∙ get_or-drop at bytes i 0)
      ∙ c.count_front.ensures.same i (omega arith))
]
