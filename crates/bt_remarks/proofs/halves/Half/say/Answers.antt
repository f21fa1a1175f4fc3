use Rattle.std.proofs.Common.{rules}
use Rattle.bt_remarks.proofs.halves.Half.say.Goals as goal

pub returns-in-Cancel-clause-ok : goal.returns-in-Cancel-clause-ok
returns-in-Cancel-clause-ok c = search (rules, c.cancel.ensures c.args.number c.args.mark)
