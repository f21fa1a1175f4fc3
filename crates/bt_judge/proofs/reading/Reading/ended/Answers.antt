use Rattle.std.proofs.Common.{◌∙◌, Err, sym, subst, ap}
use Rattle.bt_judge.specs.Readings.{ReadingState, reading_state, IsJudged}
use Rattle.bt_judge.proofs.Telling.{told_accepted, told_inside, told_refused}
use Rattle.bt_judge.proofs.reading.Reading.ended.Goals as goal

pub returns-in-Some : goal.returns-in-Some
returns-in-Some c = λ own b xs j.
    let P : ReadingState → Type 0 = λ s. IsJudged own b xs s in
    told_refused own b xs (reading_state c.self.inside.feed c.self.inside.refused) c.in-Some.refusal c.in-Some.is (subst P (sym c.self.view_is) j)

pub returns-in-Ok : goal.returns-in-Ok
returns-in-Ok c = λ own b xs j.
    let P : ReadingState → Type 0 = λ s. IsJudged own b xs s in
    told_accepted own b xs c.self.inside.feed c.number-number.result c.in-Ok.bytes j.limit ((subst P (sym c.self.view_is) j).held c.in_default.is)
    c.number-number.ensures.feed c.number-number.ensures.value (sym c.finish.ensures ∙ c.in-Ok.is)

pub returns-in-Err-Refused : goal.returns-in-Err-Refused
returns-in-Err-Refused c = λ own b xs j.
    let P : ReadingState → Type 0 = λ s. IsJudged own b xs s in
    told_inside own b xs c.self.inside.feed c.in-Err-Refused.refusal j.limit ((subst P (sym c.self.view_is) j).held c.in_default.is)
    c.number-number.ensures.feed (sym c.finish.ensures ∙ c.in-Err-Refused.is ∙ ap Err c.in-Err-Refused.field-0-is)
