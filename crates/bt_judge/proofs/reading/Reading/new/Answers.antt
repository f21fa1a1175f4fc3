use Rattle.bt_judge.proofs.Judging.{first}
use Rattle.bt_judge.proofs.reading.Reading.new.Goals as goal

pub returns-in-Ok-clause-judged : goal.returns-in-Ok-clause-judged
returns-in-Ok-clause-judged c = first c.args.own c.in-Ok.feed c.requires.1 c.in-Ok.ensures.ok
