use Rattle.std.proofs.Common.{◌≡◌, ◌+◌, ◌-◌, zero-add, sym, ap, ◌∙◌, arith, inl, inr}
use Rattle.std.proofs.lemmas.Grind.{common_steps}
use Rattle.std.proofs.lemmas.Bool.{cases_lt}
use Rattle.bt_tcp.specs.Bits.{flag}
use Rattle.bt_tcp.specs.Cells.{slot_of}
use Rattle.bt_tcp.proofs.rings.turn_flags.Goals as goal

pub returns-clause-turned : goal.returns-clause-turned
returns-clause-turned c = λ k l.
    let known = c.args.known.now in
    let len = c.args.len in
    let head = c.args.head in
    let n = len - head in
    elim (cases_lt k n) [
      | inl m ↦ (
          let s : slot_of len head k ≡ head + k = grind (arith, common_steps) in
          c.copy-2.ensures.outside k (inl m) ∙ ap (flag c.copy.new.to) (sym (zero-add k)) ∙ c.copy.ensures.inside k m ∙ ap (flag known) (sym s))
      | inr m ↦ (
          let j = k - n in
          let z : n + j ≡ k = omega arith in
          let s : slot_of len head k ≡ 0 + j = grind (arith, common_steps) in
          ap (flag c.copy-2.new.to) (sym z) ∙ c.copy-2.ensures.inside j (omega arith) ∙ ap (flag known) (sym s))
    ]
