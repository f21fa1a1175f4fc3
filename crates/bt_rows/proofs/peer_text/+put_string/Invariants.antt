use Rattle.std.proofs.Common.{length}
use Rattle.bt_rows.proofs.peer_text.+put_string.Given as goal

abbrev pub decreases-put_string : goal.decreases-put_string
decreases-put_string l = length l.bytes.now
