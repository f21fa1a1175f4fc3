use Rattle.std.proofs.Common.{sym, subst}
use Rattle.bt_judge.specs.Readings.{ReadingState, reading_state, IsJudged}
use Rattle.bt_judge.proofs.Judging.{stands}
use Rattle.bt_judge.proofs.reading.Reading.refusal.Goals as goal

pub returns-clause-stands : goal.returns-clause-stands
returns-clause-stands c = λ own b xs j.
    let P : ReadingState → Type 0 = λ s. IsJudged own b xs s in
    stands own b xs (reading_state c.self.inside.feed c.self.inside.refused) (subst P (sym c.self.view_is) j)
