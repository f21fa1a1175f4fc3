use Rattle.bt_torrent.proofs.Files.{found_or_none, no_info}
use Rattle.std.proofs.Common.{refl}
use Rattle.bt_torrent.proofs.file.info_in.Goals as goal

pub returns-in_err-pairs : goal.returns-in_err-pairs
returns-in_err-pairs c = rw c.from_residual.ensures (no_info c.args.file.now (c.in_err-pairs.ensures.none refl))

pub returns : goal.returns
returns c = found_or_none c.args.file.now c.in_ok-pairs.pairs.now c.in_ok-pairs.ensures.whole c.in_ok-pairs.ensures.pairs c.info_of.result
    c.info_of.ensures
