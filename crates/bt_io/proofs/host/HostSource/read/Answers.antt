use Rattle.std.proofs.Common.{rules}
use Rattle.bt_io.proofs.host.HostSource.read.Goals as goal

pub returns-after-count-eq0-clause-bound : goal.returns-after-count-eq0-clause-bound
returns-after-count-eq0-clause-bound g c = search rules

pub returns-after-count-eq0-clause-bytes : goal.returns-after-count-eq0-clause-bytes
returns-after-count-eq0-clause-bytes g c = search rules

pub returns-after-count-eq0-clause-reads : goal.returns-after-count-eq0-clause-reads
returns-after-count-eq0-clause-reads g c = search rules

pub returns-after-count-eq0-clause-failed : goal.returns-after-count-eq0-clause-failed
returns-after-count-eq0-clause-failed g c = search rules

pub returns-after-count-eq0-clause-ends : goal.returns-after-count-eq0-clause-ends
returns-after-count-eq0-clause-ends g c = search rules
