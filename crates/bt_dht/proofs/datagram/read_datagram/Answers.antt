use Rattle.std.proofs.Common.{arith}
use Rattle.bt_dht.proofs.Datagrams.{is_followed}
use Rattle.bt_dht.proofs.datagram.read_datagram.Goals as goal

pub returns-then-n-datagram : goal.returns-then-n-datagram
returns-then-n-datagram c =
    λ ps s. is_followed c.args.datagram.now c.in-Ok.ensures.ok.0 c.in-Ok.n c.in-Ok.ensures.ok.2 (omega arith) ps s
