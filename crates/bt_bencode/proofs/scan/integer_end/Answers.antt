use Rattle.std.proofs.Common.{◌<◌, ◌≤◌, length, arith}
use Rattle.bt_bencode.proofs.Tokens.{after_minus, both_found}
use Rattle.bt_bencode.proofs.scan.integer_end.Goals as goal
use Rattle.bt_bencode.proofs.scan.integer_end.Goals.{then-payload-at-eq45+else-first-payload+else-payload-first-eq48, else-payload-at-eq45}

pub returns-clause-value : goal.returns-clause-value
returns-clause-value c =
    let payload = c.args.payload.now in
    let at = c.args.at in
    elim c.if-payload-at-eq45.branch [
      | then-payload-at-eq45+else-first-payload+else-payload-first-eq48 w ↦ both_found c.digits_end.result
          (λ end. (c.if-payload-at-eq45.first < end) × (end ≤ length payload)) _ _ c.digits_end.ensures.within c.digits_end.ensures.minus
          (λ end within leads stack. after_minus payload at end stack (omega arith) (omega (arith, w.first-is, within)) w.if-payload-at-eq45.true
          (rw w.first-is at (leads stack (rw w.first-is w.if-payload-first-eq48.false))))
      | else-payload-at-eq45 w ↦ rw w.first-is at c.digits_end.ensures.plus
    ]
