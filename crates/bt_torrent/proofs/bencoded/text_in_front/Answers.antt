use Rattle.std.proofs.Common.{arith, refl}
use Rattle.bt_torrent.proofs.Passing.{no_length, no_text}
use Rattle.bt_torrent.proofs.bencoded.text_in_front.Goals as goal

pub returns-then-len-rest-clause-none : goal.returns-then-len-rest-clause-none
returns-then-len-rest-clause-none c = λ e. no_text c.args.bytes.now c.in_ok-n.rest.now c.in_ok-n.n (omega (arith, c.in_ok-n.ensures.bound)) (omega arith)
    c.in_ok-n.ensures.split

pub returns-in_err-n-clause-none : goal.returns-in_err-n-clause-none
returns-in_err-n-clause-none c = λ e. no_length c.args.bytes.now (c.in_err-n.ensures.none refl)
