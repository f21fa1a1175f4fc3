use Rattle.std.proofs.Common.{rules}
use Rattle.bt_bencode.proofs.Places.{place_whole}
use Rattle.bt_bencode.proofs.scan.place.Goals as goal

pub returns-in-Ok : goal.returns-in-Ok
returns-in-Ok c = place_whole c.args.payload.now c.in-Ok.ensures.ok.0 c.in-Ok.n c.in-Ok.ensures.ok.1

pub returns-in-Err-Impossible : goal.returns-in-Err-Impossible
returns-in-Err-Impossible c = search rules
