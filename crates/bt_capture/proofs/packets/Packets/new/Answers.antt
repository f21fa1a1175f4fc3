use Rattle.std.proofs.Common.{List, ℕ, [], sym, ap, subst, ◌∙◌, arith}
use Rattle.bt_capture.specs.Readings.{IsReading}
use Rattle.bt_capture.specs.Walks.{walk_state}
use Rattle.bt_capture.proofs.Going.{fresh}
use Rattle.bt_capture.proofs.packets.Packets.new.Goals as goal

pub returns-clause-nothing : goal.returns-clause-nothing
returns-clause-nothing c = ap (λ (b : List ℕ). walk_state c.new-2.result b 0) c.in_ok-buffer.ensures ∙ c.new-2.ensures.state

pub returns-clause-begins : goal.returns-clause-begins
returns-clause-begins c =
    let e = ap (λ (b : List ℕ). walk_state c.new-2.result b 0) c.in_ok-buffer.ensures ∙ c.new-2.ensures.state in
    subst (λ s. IsReading [] [] s) (sym e) fresh

pub invariant_of-result : goal.invariant_of-result
invariant_of-result c = omega (arith, c.new-2.ensures.at)
