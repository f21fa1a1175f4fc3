use Rattle.bt_rows.proofs.Pairs.{pair_at, take_two}
use Rattle.bt_rows.proofs.numbers.put_two.Goals as goal

pub returns-clause-text : goal.returns-clause-text
returns-clause-text c =
    let p = pair_at c.args.n c.requires.0 in
    rw (p.0, p.1, take_two c.args.text.now c.args.at _ _ c.requires.1)
