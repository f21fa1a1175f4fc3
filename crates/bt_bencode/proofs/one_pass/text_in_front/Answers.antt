use Rattle.std.proofs.Common.{arith}
use Rattle.bt_bencode.proofs.Stopping.{no_text}
use Rattle.bt_bencode.proofs.one_pass.text_in_front.Goals as goal

pub returns-then-len-rest-clause-none : goal.returns-then-len-rest-clause-none
returns-then-len-rest-clause-none c = λ e. no_text c.args.bytes.now c.in_ok-n.rest.now c.in_ok-n.n (omega (arith, c.in_ok-n.ensures.bound)) (omega arith)
    c.in_ok-n.ensures.split
