use Rattle.std.proofs.Common.{◌≡◌, ◌∙◌, ◌++◌, ℕ, List, true, sym, ap, subst}
use Rattle.bt_intro.specs.Hearing.{IsHeardOf}
use Rattle.bt_talk.proofs.Pasts.{more_by}
use Rattle.bt_talk.proofs.direction.take_opening.Goals as goal

pub returns : goal.returns
returns c = λ p f h items all.
    let m = more_by c.args.given.now true p c.args.flow.now c.args.front.now.items c.take.new.self c.take.new.out.items f c.in_ok-take.ensures in
    let same : c.take.new.out.items ≡ p.front ++ m.adds.more = m.out ∙ ap (λ (l : List ℕ). l ++ m.adds.more) (items ∙ sym all) in
    let out : c.take.new.out.items ≡ m.past.out = m.out ∙ ap (λ (l : List ℕ). l ++ m.adds.more) items ∙ sym m.adds.out in
    let heard = c.in_ok-hear.ensures.ok p.front m.adds.more h (c.deref.ensures.value ∙ same) in
    let all : c.deref.result.now ≡ m.past.front = c.deref.ensures.value ∙ out ∙ sym m.adds.front in
    (m.past, m.is, subst (λ (l : List ℕ). IsHeardOf l c.hear.new.self) all heard, out, m.adds)
