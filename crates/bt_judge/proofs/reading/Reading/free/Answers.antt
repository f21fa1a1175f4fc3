use Rattle.std.proofs.Common.{◌≡◌, ◌∙◌, ◌-◌, ◌^◌, ℕ, Option, None, sym, ap, subst}
use Rattle.bt_wire.specs.declared.item.Refusal.{Refusal}
use Rattle.bt_feed.specs.Stages.{number_of}
use Rattle.bt_judge.specs.Holes.{lacked, lacked_by, MayBeAny}
use Rattle.bt_judge.specs.Readings.{ReadingState, reading_state, IsJudged}
use Rattle.bt_judge.proofs.Holes.{any_refused, reading_any, lacked_message}
use Rattle.bt_judge.proofs.Judging.{none_by}
use Rattle.bt_judge.proofs.reading.Reading.free.Goals as goal

pub returns-then-is_some-clause-any : goal.returns-then-is_some-clause-any
returns-then-is_some-clause-any c = λ own b xs j.
    let P : ReadingState → Type 0 = λ s. IsJudged own b xs s in
    let now = reading_state c.self.inside.feed c.self.inside.refused in
    any_refused own b xs now (2 ^ 64 - 1) (sym c.is_some.ensures ∙ c.if-is_some.true) (subst P (sym c.self.view_is) j)

pub returns-clause-any : goal.returns-clause-any
returns-clause-any c = λ own b xs j.
    let f = c.self.inside.feed in
    let P : ReadingState → Type 0 = λ s. IsJudged own b xs s in
    let none = none_by c.self.inside.refused (sym c.is_some.ensures ∙ c.if-is_some.false) in
    let k = subst (λ (o : Option Refusal). P (reading_state f o)) none (subst P (sym c.self.view_is) j) in
    let some = λ (e : number_of f.stage ≡ 0). c.if-number-eq0.false (c.number.ensures.value ∙ e) in
    let count : lacked f.stage f.held ≡ c.lacks.result = lacked_message f.stage f.held some ∙ ap lacked_by (sym c.buffered.ensures) ∙ sym c.lacks.ensures in
    let Q : ℕ → Type 0 = λ n. MayBeAny own b n in
    subst Q count (reading_any own b xs (reading_state f None) k)
