use Rattle.std.proofs.Common.{arith}
use Rattle.std.proofs.lemmas.Fmt.{decimal_digit}
use Rattle.std.proofs.lemmas.List.{take_more_set}
use Rattle.itoa.proofs.Decimal.{decimal_two}
use Rattle.bt_text.proofs.putting.put_first.Goals as goal

pub returns-then-n-lt10-clause-text : goal.returns-then-n-lt10-clause-text
returns-then-n-lt10-clause-text c = rw (decimal_digit c.args.n c.if-n-lt10.true, take_more_set c.args.text.now c.args.at _ (omega arith))

pub returns-clause-text : goal.returns-clause-text
returns-clause-text c = rw (c.put_pair.ensures.text, decimal_two c.args.n c.if-n-lt10.false c.requires.0)
