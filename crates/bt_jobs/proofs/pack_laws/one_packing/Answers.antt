use Rattle.bt_jobs.proofs.PackLaws.{pack_is_one}
use Rattle.bt_jobs.proofs.pack_laws.one_packing.Goals as goal

pub returns : goal.returns
returns c = pack_is_one
