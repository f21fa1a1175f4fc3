use Rattle.std.proofs.Common.{rules}
use Rattle.bt_wire.proofs.fields.judge_bits.Goals as goal

pub returns : goal.returns
returns c = search rules
