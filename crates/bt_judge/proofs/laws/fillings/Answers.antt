use Rattle.bt_judge.proofs.Holes.{fillings_are_alike, items_are_shown, refusal_is_shown, end_is_shown}
use Rattle.bt_judge.proofs.laws.fillings.Goals as goal

pub returns-clause-alike : goal.returns-clause-alike
returns-clause-alike c = fillings_are_alike

pub returns-clause-items : goal.returns-clause-items
returns-clause-items c = items_are_shown

pub returns-clause-refusal : goal.returns-clause-refusal
returns-clause-refusal c = refusal_is_shown

pub returns-clause-end : goal.returns-clause-end
returns-clause-end c = end_is_shown
