use Rattle.std.proofs.Common.{length}
use Rattle.bt_report.proofs.quoted.+write_bytes.Given as goal

abbrev pub decreases-write_bytes : goal.decreases-write_bytes
decreases-write_bytes g l = length l.bytes.now
