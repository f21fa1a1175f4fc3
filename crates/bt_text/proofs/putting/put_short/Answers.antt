use Rattle.std.proofs.Common.{arith, append_assoc}
use Rattle.itoa.proofs.Decimal.{decimal_pair}
use Rattle.bt_text.proofs.putting.put_short.Goals as goal

pub returns-clause-text : goal.returns-clause-text
returns-clause-text c =
    rw (c.put_pair.ensures.text, c.put_first-at.ensures.text, decimal_pair c.args.n c.if-n-lt100.false (omega arith), append_assoc)
