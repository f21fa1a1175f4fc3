use Rattle.bt_jobs.proofs.PackLaws.{script_packs}
use Rattle.bt_jobs.proofs.pack_laws.script_packs.Goals as goal

pub returns : goal.returns
returns c = script_packs
