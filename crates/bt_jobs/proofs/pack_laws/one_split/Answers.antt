use Rattle.bt_jobs.proofs.PackLaws.{lines_are_one}
use Rattle.bt_jobs.proofs.pack_laws.one_split.Goals as goal

pub returns : goal.returns
returns c = lines_are_one
