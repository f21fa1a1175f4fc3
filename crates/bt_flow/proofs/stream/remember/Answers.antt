use Rattle.std.proofs.Common.{◌++◌, append_assoc, length-append, subst, arith}
use Rattle.bt_tcp.specs.History.{IsHistory}
use Rattle.bt_flow.proofs.stream.remember.Goals as goal

pub returns : goal.returns
returns c = λ out n h.
    let first = c.in_ok-remember.ensures out (omega (arith, n, c.saturating_sub-between.ensures, c.saturating_sub-offset.ensures)) h in
    let both = c.in_ok-remember-2.ensures (out ++ c.args.first.now)
    (omega (arith, n, c.saturating_sub-between.ensures, length-append out c.args.first.now)) first in
    subst (λ x. IsHistory c.remember-2.new.memory.items x) (append_assoc out c.args.first.now c.args.rest.now) both
