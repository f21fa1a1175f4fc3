use Rattle.std.proofs.Common.{arith, refl}
use Rattle.bt_torrent.proofs.Passing.{file_of, file_pairs, no_file_end, not_all}
use Rattle.bt_torrent.proofs.bencoded.pairs_of.Goals as goal

pub returns-in_err-rest-clause-none : goal.returns-in_err-rest-clause-none
returns-in_err-rest-clause-none c = λ e. no_file_end c.args.file.now c.following-pairs.result.now c.following-pairs.ensures (c.in_err-rest.ensures.none refl)

pub returns-then-rest-gt0-clause-none : goal.returns-then-rest-gt0-clause-none
returns-then-rest-gt0-clause-none c = λ e. not_all c.args.file.now c.following-pairs.result.now c.in_ok-rest.rest.now c.following-pairs.ensures
    (omega arith) c.in_ok-rest.ensures.passes

pub returns-clause-whole : goal.returns-clause-whole
returns-clause-whole c = file_of c.args.file.now c.following-pairs.result.now c.in_ok-rest.rest.now (omega arith) c.following-pairs.ensures (omega arith)
    c.in_ok-rest.ensures.passes

pub returns-clause-pairs : goal.returns-clause-pairs
returns-clause-pairs c = file_pairs c.args.file.now c.following-pairs.result.now c.following-pairs.ensures
