use Rattle.std.proofs.Common.{◌≡◌, ◌∙◌, ◌++◌, Option, sym, ap, subst, arith}
use Rattle.std.specs.Prelude.{IsSome, replicate}
use Rattle.bt_wire.specs.declared.item.Refusal.{Refusal}
use Rattle.bt_judge.specs.Holes.{lacked, free_after, unless_refused}
use Rattle.bt_judge.specs.Readings.{ReadingState, reading_state, IsJudged}
use Rattle.bt_judge.proofs.Judging.{none_by}
use Rattle.bt_judge.proofs.Pushing.{holds_none, filled, passed_over}
use Rattle.bt_judge.proofs.reading.Reading.fill.Goals as goal

pub returns-then-is_some-clause-judged : goal.returns-then-is_some-clause-judged
returns-then-is_some-clause-judged c = λ own b xs j.
    let some = subst (λ (s : ReadingState). IsSome s.refused) c.self.view_is (sym c.is_some.ensures ∙ c.if-is_some.true) in
    passed_over own b xs c.args.self.now c.args.n some j

pub invariant_of-self : goal.invariant_of-self
invariant_of-self c = λ none.
    let f = c.self.inside.feed in
    let count : free_after c.args.self.now ≡ lacked f.stage f.held =
    ap free_after (sym c.self.view_is) ∙ ap (λ (o : Option Refusal). unless_refused o (lacked f.stage f.held)) none in
    holds_none f c.push_zeros.new.feed c.args.n (omega (arith, c.requires, count)) c.push_zeros.ensures

pub returns-clause-judged : goal.returns-clause-judged
returns-clause-judged c = λ own b xs j.
    let f = c.self.inside.feed in
    let g = c.push_zeros.new.feed in
    let none = none_by c.self.inside.refused (sym c.is_some.ensures ∙ c.if-is_some.false) in
    let count : free_after c.args.self.now ≡ lacked f.stage f.held =
    ap free_after (sym c.self.view_is) ∙ ap (λ (o : Option Refusal). unless_refused o (lacked f.stage f.held)) none in
    let P : ReadingState → Type 0 = λ s. IsJudged own b xs s in
    let k = subst (λ (o : Option Refusal). P (reading_state f o)) none (subst P (sym c.self.view_is) j) in
    let Q : Option Refusal → Type 0 = λ o. IsJudged own (b ++ replicate c.args.n 0) xs (reading_state g o) in
    subst Q (sym none) (filled own b xs f g c.args.n (omega (arith, c.requires, count)) c.push_zeros.ensures k)
