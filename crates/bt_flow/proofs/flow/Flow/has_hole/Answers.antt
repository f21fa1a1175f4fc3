use Rattle.std.proofs.Common.{nat_lt, Some, None, ap, refl}
use Rattle.bt_flow.proofs.flow.Flow.has_hole.Goals as goal

pub returns-in-Some : goal.returns-in-Some
returns-in-Some c = λ heard segs out f. (Some c.in-Some.place, c.in-Some.ensures heard segs out f, ap (nat_lt c.in-Some.place) (c.sent.ensures heard f.half))

pub returns-in-None : goal.returns-in-None
returns-in-None c = λ heard segs out f. (None, c.in-None.ensures heard segs out f, refl)
