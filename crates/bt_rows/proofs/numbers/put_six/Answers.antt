use Rattle.std.proofs.Common.{append_assoc}
use Rattle.bt_rows.proofs.Pairs.{six_pairs}
use Rattle.bt_rows.proofs.numbers.put_six.Goals as goal

pub returns-clause-text : goal.returns-clause-text
returns-clause-text c =
    rw (c.put_four.ensures.text, c.put_two-at.ensures.text, append_assoc, six_pairs c.args.n)
