use Rattle.std.proofs.Common.{sym, arith}
use Rattle.bt_bencode.proofs.Decimals.{short, length_one, length_step}
use Rattle.bt_bencode.proofs.length.+decimal_len.Goals as goal

pub returns-then-n-lt10 : goal.returns-then-n-lt10
returns-then-n-lt10 t c = record { value = sym (length_one c.args.n c.if-n-lt10.true); short = omega arith }

pub returns-else-n-lt10 : goal.returns-else-n-lt10
returns-else-n-lt10 t c =
    let step = length_step c.args.n c.if-n-lt10.false c.ranges.n.fits in
    let few = short c.args.n c.ranges.n.fits in
    record { value = omega arith; short = omega arith }
