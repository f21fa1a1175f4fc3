use Rattle.bt_text.proofs.FirstLine.{cut_some}
use Rattle.bt_text.proofs.splitting.split_line.Goals as goal

pub returns-clause-cut : goal.returns-clause-cut
returns-clause-cut c = cut_some c.args.text.now c.in_ok-end.end c.in_ok-end.ensures
