-- What memory a pointer to a box owns, where there is one.
use Rattle.std.specs.Prelude.{Option, Some, None}
use Rattle.std.specs.Box.Ownership.{box_owns}
use base.Fml.{Fml, ftrue}
use mir.Syntax.{Ty}
use denote.RattleType.{RattleType}
use denote.RawPtr.{Ptr}

unfoldable pub owned_by : (Ty → Ptr → Fml) → (R : RattleType) → Ptr → Option R.Denot → Fml
owned_by holds R p None = ftrue
owned_by holds R p (Some x) = box_owns holds R p x
