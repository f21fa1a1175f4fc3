use Rattle.std.proofs.Common.{[], ◌++◌, refl, sym, ap, subst, ◌∙◌}
use Rattle.bt_judge.specs.Readings.{ReadingState, reading_state, IsJudged}
use Rattle.bt_judge.proofs.Both.{front_all}
use Rattle.bt_judge.proofs.Judging.{none_by, passes, begins}
use Rattle.bt_judge.proofs.reading.Reading.take.Goals as goal

pub returns-then-is_some-clause-judged : goal.returns-then-is_some-clause-judged
returns-then-is_some-clause-judged g c = λ own b xs j.
    let P : ReadingState → Type 0 = λ s. IsJudged own b xs s in
    let now = reading_state c.self.inside.feed c.self.inside.refused in
    let Q : ReadingState → Type 0 = λ s. IsJudged own (b ++ c.args.bytes.now) (xs ++ []) s in
    ([], (refl, subst Q c.self.view_is (passes own b xs now c.args.bytes.now (sym c.is_some.ensures ∙ c.if-is_some.true) (subst P (sym c.self.view_is) j))))

pub returns-in-Ok-clause-judged : goal.returns-in-Ok-clause-judged
returns-in-Ok-clause-judged g c = λ own b xs j.
    let calm = none_by c.self.inside.refused (sym c.is_some.ensures ∙ c.if-is_some.false) in
    let none = sym (ap (λ (s : ReadingState). s.refused) c.self.view_is) ∙ calm in
    let r = c.in-Ok.ensures.judged own b xs j none in
    (r.0, (r.1.0, front_all own b (xs ++ r.0) c.take_front.new.self c.args.bytes.now c.in-Ok.field-0 r.1.1 r.1.2.judged))

pub returns-in-Err-clause-judged : goal.returns-in-Err-clause-judged
returns-in-Err-clause-judged g c = λ own b xs j.
    let calm = none_by c.self.inside.refused (sym c.is_some.ensures ∙ c.if-is_some.false) in
    let none = sym (ap (λ (s : ReadingState). s.refused) c.self.view_is) ∙ calm in
    let r = c.in-Err.ensures.judged own b xs j none in
    (r.0, (r.1.0, begins own (b ++ c.args.bytes.now) (xs ++ r.0) c.take_front.new.self.feed.stage j.limit r.1.1))
