use Rattle.std.proofs.Common.{IsUtf8, subst, sym}
use Rattle.bt_rows.proofs.Utf8.{said_utf8}
use Rattle.bt_rows.proofs.display.SaidDisplay.fmt.Goals as goal

pub as_text-requires : goal.as_text-requires
as_text-requires g c = subst IsUtf8 (sym c.put_said-end.ensures.text) (said_utf8 _)
