use Rattle.std.proofs.Common.{rules}
use Rattle.bt_wire.proofs.header.judge_kind.Goals as goal

pub returns-then-is_none : goal.returns-then-is_none
returns-then-is_none c = search rules

pub returns-then-is_late : goal.returns-then-is_late
returns-then-is_late c = search rules
