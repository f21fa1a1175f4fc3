use Rattle.std.proofs.Common.{rules}
use Rattle.bt_end.proofs.part.Part.ask.Goals as goal

pub returns-in-Fetching-clause-value : goal.returns-in-Fetching-clause-value
returns-in-Fetching-clause-value g c = search rules
