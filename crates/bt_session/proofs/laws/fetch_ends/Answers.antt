use Rattle.bt_session.proofs.FetchRuns.{fetch_is_short, fetch_is_whole, fetch_is_free}
use Rattle.bt_session.proofs.laws.fetch_ends.Goals as goal

pub returns-clause-short : goal.returns-clause-short
returns-clause-short c = fetch_is_short

pub returns-clause-whole : goal.returns-clause-whole
returns-clause-whole c = fetch_is_whole

pub returns-clause-free : goal.returns-clause-free
returns-clause-free c = fetch_is_free
