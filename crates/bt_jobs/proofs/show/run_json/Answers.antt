use Rattle.std.proofs.Common.{rules}
use Rattle.bt_jobs.proofs.show.run_json.Goals as goal

pub returns-clause-shown : goal.returns-clause-shown
returns-clause-shown g c = search rules
