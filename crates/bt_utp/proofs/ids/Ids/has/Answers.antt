use Rattle.std.proofs.Common.{◌∙◌, ap, is_some}
use Rattle.bt_utp.proofs.Counting.{some_alone}
use Rattle.bt_utp.proofs.ids.Ids.has.Goals as goal

pub returns : goal.returns
returns c ids are = c.contains_key.ensures ∙ ap is_some (are.alone c.args.id) ∙ some_alone ids c.args.id
