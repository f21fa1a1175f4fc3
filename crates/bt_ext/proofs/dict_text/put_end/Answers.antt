use Rattle.std.proofs.Common.{rules, arith, ◌≤◌, length}
use Rattle.std.proofs.lemmas.List.{drop_all}
use Rattle.bt_ext.proofs.dict_text.put_end.Goals as goal

pub returns-clause-text : goal.returns-clause-text
returns-clause-text c =
    let whole : length c.args.text.now ≤ 220 = omega (arith, c.told-text) in
    rw (c.put_bytes.ensures.text, drop_all 220 c.args.text.now whole) (search rules)
