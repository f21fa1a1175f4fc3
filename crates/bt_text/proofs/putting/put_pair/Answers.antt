use Rattle.bt_text.proofs.Digits.{pair_at, take_two}
use Rattle.bt_text.proofs.putting.put_pair.Goals as goal

pub returns-clause-text : goal.returns-clause-text
returns-clause-text c =
    let p = pair_at c.args.pair c.requires.0 in
    rw (p.0, p.1, take_two c.args.text.now c.args.at _ _ c.requires.1)
