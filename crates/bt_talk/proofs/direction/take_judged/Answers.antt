use Rattle.std.proofs.Common.{◌≡◌, ◌∙◌, ◌++◌, ℕ, List, [], false, if◌then◌else◌, drop, ap}
use Rattle.bt_talk.proofs.Items.{judged_more_items}
use Rattle.bt_talk.proofs.Pasts.{more_next}
use Rattle.bt_talk.proofs.Receivers.{judged_more}
use Rattle.bt_talk.proofs.Sent.{ready_now}
use Rattle.bt_talk.proofs.direction.take_judged.Goals as goal

pub returns : goal.returns
returns c = λ own p later f parts j.
    let t = c.in_ok-fresh.ensures in
    let fresh = c.in_ok-fresh.fresh.now in
    let m =
    more_next c.args.given.now false p c.args.flow.now fresh c.clear.new.self.items c.take_next.new.self c.take_next.new.later.items f t in
    let rest : c.take_next.new.later.items ≡ t.rest = t.is ∙ ap (λ (l : List ℕ). l ++ t.rest) c.clear.ensures.items in
    let all : fresh ++ c.take_next.new.later.items ≡ m.adds.more = ap (λ (l : List ℕ). fresh ++ l) rest ∙ m.out in
    let taken : fresh ++ c.deref.result.now ≡ m.adds.more = ap (λ (l : List ℕ). fresh ++ l) c.deref.ensures.value ∙ all in
    let d = c.in_ok-judge_parts.ensures own (drop j.start p.out) j.free j.bep j.judged in
    let k =
    judged_more own p m.past later m.adds.more (fresh ++ c.deref.result.now) d.0 d.1 c.args.judge.now c.judge_parts.new.judge parts m.adds.front m.adds.out
    taken j d.2 in (
      m.past,
      m.is,
      k.0,
      m.adds,
      judged_more_items own p m.past d.0 c.args.judge.now c.judge_parts.new.judge c.args.watch.now c.judge_parts.new.watch j k.0 k.1 d.3,
      ready_now c.args.is_wanted p m.past m.adds.more c.put_first.new.out.items m.adds.out
          (c.in_ok-put_first.ensures ∙ ap (λ (l : List ℕ). if c.args.is_wanted then l else []) all),
    )
