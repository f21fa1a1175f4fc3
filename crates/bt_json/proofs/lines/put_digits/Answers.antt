use Rattle.std.proofs.Common.{arith}
use Rattle.bt_json.proofs.EscapeLaws.{escape_hex}
use Rattle.bt_json.proofs.lines.put_digits.Goals as goal

pub returns-clause-text : goal.returns-clause-text
returns-clause-text c = rw (escape_hex c.args.bytes.now (λ i. let fits = c.type_inv.bytes i in omega (arith, fits))) c.put_hex.ensures.text
