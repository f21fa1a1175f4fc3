use Rattle.std.proofs.Common.{append_assoc}
use Rattle.itoa.proofs.Decimal.{decimal_four}
use Rattle.bt_text.proofs.putting.put_number.Goals as goal

pub returns-clause-text : goal.returns-clause-text
returns-clause-text c =
    rw (c.put_four.ensures.text, c.put_short-at.ensures.text, decimal_four c.args.n c.if-n-lt10000.false c.ranges.n.fits, append_assoc)
