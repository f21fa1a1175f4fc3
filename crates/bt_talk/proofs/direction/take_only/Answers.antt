use Rattle.std.proofs.Common.{◌≡◌, ◌∙◌, ◌++◌, ℕ, List, [], false, if◌then◌else◌, ap}
use Rattle.bt_talk.proofs.Pasts.{more_next}
use Rattle.bt_talk.proofs.Sent.{ready_now}
use Rattle.bt_talk.proofs.direction.take_only.Goals as goal

pub returns : goal.returns
returns c = λ p f.
    let t = c.in_ok-fresh.ensures in
    let fresh = c.in_ok-fresh.fresh.now in
    let m =
    more_next c.args.given.now false p c.args.flow.now fresh c.clear.new.self.items c.take_next.new.self c.take_next.new.later.items f t in
    let rest : c.take_next.new.later.items ≡ t.rest = t.is ∙ ap (λ (l : List ℕ). l ++ t.rest) c.clear.ensures.items in
    let all : fresh ++ c.take_next.new.later.items ≡ m.adds.more = ap (λ (l : List ℕ). fresh ++ l) rest ∙ m.out in (
      m.past,
      m.is,
      m.adds,
      ready_now c.args.is_wanted p m.past m.adds.more c.put_first.new.out.items m.adds.out
          (c.in_ok-put_first.ensures ∙ ap (λ (l : List ℕ). if c.args.is_wanted then l else []) all),
    )
