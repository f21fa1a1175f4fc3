use Rattle.std.proofs.Common.{◌≡◌, ◌∙◌, ℕ, ◌+◌, ◌-◌, List, ◌++◌, length, take, Option, None, sym, subst, ap, refl, arith}
use Rattle.std.proofs.Math.Seq.{take-length}
use Rattle.bt_wire.specs.declared.item.Refusal.{Refusal}
use Rattle.bt_feed.specs.Feeds.{FeedState}
use Rattle.bt_feed.specs.Stages.{start_of}
use Rattle.bt_judge.specs.Readings.{ReadingState, reading_state, IsJudged, IsJudgedTo, IsPieceTaken}
use Rattle.bt_judge.proofs.Both.{front_open, front_refused, front_within}
use Rattle.bt_judge.proofs.Judging.{missed}
use Rattle.bt_judge.proofs.reading.Reading.take_front.Goals as goal

pub returns-in-Ok-None-clause-judged : goal.returns-in-Ok-None-clause-judged
returns-in-Ok-None-clause-judged g c = λ own b xs j none.
    let f = c.self.inside.feed in
    let h = c.read.new.feed in
    let bytes = c.args.bytes.now in
    let now = subst (λ (s : ReadingState). IsJudged own b xs s) (sym c.self.view_is) j in
    let calm : c.self.inside.refused ≡ None = ap (λ (s : ReadingState). s.refused) c.self.view_is ∙ none in
    let r = c.in-Ok-None.ensures.read in
    let piece = subst (λ (o : Option Refusal). IsPieceTaken f bytes r.0 h o) c.in-Ok-None.field-0-is r.1.1 in
    let all = front_open own b xs f h bytes r.0 j.limit c.in-Ok-None.ensures.limit (now.held calm).read piece in
    let P : Option Refusal → List ℕ → Type 0 = λ o l. IsJudgedTo own (b ++ l) (xs ++ r.0) (reading_state h o) in
    let whole = subst (λ (l : List ℕ). P None l) (sym (take-length bytes)) all in
    (r.0, (r.1.0, (λ _. refl), subst (λ (o : Option Refusal). P o (take (length bytes) bytes)) (sym calm) whole))

pub returns-in-Ok-Some-clause-judged : goal.returns-in-Ok-Some-clause-judged
returns-in-Ok-Some-clause-judged g c = λ own b xs j none.
    let f = c.self.inside.feed in
    let h = c.read.new.feed in
    let bytes = c.args.bytes.now in
    let now = subst (λ (s : ReadingState). IsJudged own b xs s) (sym c.self.view_is) j in
    let same = ap (λ (s : ReadingState). s.refused) c.self.view_is in
    let start = ap (λ (s : ReadingState). s.feed) c.self.view_is in
    let r = c.in-Ok-Some.ensures.read in
    let piece = subst (λ (o : Option Refusal). IsPieceTaken f bytes r.0 h o) c.in-Ok-Some.field-0-is r.1.1 in
    let count = c.saturating_sub.ensures ∙ ap (λ (n : ℕ). n - c.count-before.result) c.count.ensures
    ∙ ap (λ (n : ℕ). start_of h.stage + length h.held - n) (c.count-before.ensures ∙ ap (λ (x : FeedState). start_of x.stage + length x.held) (sym start)) in
    let to = front_refused own b xs f h bytes r.0 c.in-Ok-Some.refusal c.saturating_sub.result j.limit c.in-Ok-Some.ensures.limit (now.held (same ∙ none)).read
    piece count in
    (r.0, (r.1.0, (λ bad. absurd cc), to))

pub returns-in-Ok-Some-clause-within : goal.returns-in-Ok-Some-clause-within
returns-in-Ok-Some-clause-within g c =
    let f = c.self.inside.feed in
    let h = c.read.new.feed in
    let bytes = c.args.bytes.now in
    let start = ap (λ (s : ReadingState). start_of s.feed.stage + length s.feed.held) c.self.view_is in
    let r = c.in-Ok-Some.ensures.read in
    let piece = subst (λ (o : Option Refusal). IsPieceTaken f bytes r.0 h o) c.in-Ok-Some.field-0-is r.1.1 in
    let within = front_within f h bytes r.0 c.in-Ok-Some.refusal piece in
    omega (arith, within, start, c.saturating_sub.ensures, c.count.ensures, c.count-before.ensures)

pub returns-in-Err-clause-judged : goal.returns-in-Err-clause-judged
returns-in-Err-clause-judged g c = λ own b xs j none.
    let f = c.self.inside.feed in
    let h = c.read.new.feed in
    let now = subst (λ (s : ReadingState). IsJudged own b xs s) (sym c.self.view_is) j in
    let same = ap (λ (s : ReadingState). s.refused) c.self.view_is in
    let r = c.in-Err.ensures.read in
    let m = missed own b xs f h c.args.bytes.now r.0 r.1.1.0 c.in-Err.ensures.limit (now.held (same ∙ none)).read r.1.1.1 c.in-Err.ensures.emptied in
    (r.0, (r.1.0, m))
