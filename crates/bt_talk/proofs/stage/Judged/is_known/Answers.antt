use Rattle.std.proofs.Common.{◌≡◌, Bool, true, false, not, refl}
use Rattle.bt_talk.proofs.stage.Judged.is_known.Goals as goal

turned : (a b : Bool) → a ≡ not b → b ≡ not a
turned true true e = absurd (cc)
turned true false e = refl
turned false true e = refl
turned false false e = absurd (cc)

pub returns : goal.returns
returns c = λ own b xs ys j. (c.refusal.result, c.refusal.ensures own b xs ys j, turned _ _ c.is_none.ensures)
