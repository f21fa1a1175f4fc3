use Rattle.std.proofs.Common.{◌≡◌, ◌∙◌, false, ℕ, List, ◌++◌, drop, Option, unwrap_or, sym, ap, subst}
use Rattle.bt_remarks.specs.declared.events.Side.{Side}
use Rattle.bt_remarks.specs.Said.{other}
use Rattle.bt_talk.specs.Sent.{IsSent}
use Rattle.bt_talk.specs.Talks.{of_side}
use Rattle.bt_talk.proofs.Talks.{found, opening_of}
use Rattle.bt_talk.proofs.sides.Sides.hand_out.Goals as goal

pub returns-in_ok-hand_out-in-Some-clause-sent : goal.returns-in_ok-hand_out-in-Some-clause-sent
returns-in_ok-hand_out-in-Some-clause-sent c = λ terms a b side t o w e.
    let self = c.args.self.now in
    let k = c.in-Some.side in
    let p = of_side k a b in
    let d = c.direction.result.now in
    let is = found terms k a b self d c.direction.ensures t in
    let opens = opening_of terms k a b self d c.direction.ensures t ∙ o in
    let x = c.in_ok-hand_out-in-Some.ensures terms p (of_side (other k) a b) is opens in
    let same : k ≡ side = ap (λ (z : Option Side). unwrap_or z side) (sym c.in-Some.is ∙ w) in
    subst (λ (s : Side). IsSent false (of_side s a b) c.hand_out.new.out.items) same
    (record { start = x.0; is_start = λ _. x.1; is = x.2 ∙ ap (λ (l : List ℕ). l ++ drop (unwrap_or x.0 0) p.out) e })

pub returns-in-None-clause-sent : goal.returns-in-None-clause-sent
returns-in-None-clause-sent c = λ terms a b side t o w e. absurd (let f = sym c.in-None.is ∙ w in cc)
