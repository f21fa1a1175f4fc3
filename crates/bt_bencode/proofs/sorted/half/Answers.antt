use Rattle.std.proofs.Common.{arith}
use Rattle.bt_bencode.proofs.Wording.{is_half}
use Rattle.bt_bencode.proofs.sorted.half.Goals as goal

pub returns : goal.returns
returns c = is_half c.args.bytes.now c.from_be_bytes.result c.requires (omega arith) (omega arith) (omega arith) (omega arith) c.from_be_bytes.ensures
