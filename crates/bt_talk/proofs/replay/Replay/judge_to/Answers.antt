use Rattle.std.proofs.Common.{◌≡◌, ◌∙◌, ◌++◌, ℕ, ◌+◌, ◌-◌, ◌^◌, min, List, length, length-take, drop, sym, ap, subst, arith}
use Rattle.std.proofs.lemmas.List.{take-append-drop}
use Rattle.bt_talk.specs.Replays.{IsReplayOf}
use Rattle.bt_talk.proofs.Replays.{nearer, place_more, reached_more}
use Rattle.bt_talk.proofs.replay.Replay.judge_to.Goals as goal

pub returns : goal.returns
returns c = λ p receiver cut n xs short i.
    let self = c.args.self.now in
    let rest = self.rest.now in
    let count = c.min-count.result in
    let bytes = c.split_at.result.0.now in
    let left = c.split_at.result.1.now in
    let parts : rest ≡ bytes ++ left =
    sym (take-append-drop count rest) ∙ ap (λ (l : List ℕ). l ++ drop count rest) (sym c.split_at.ensures.front)
    ∙ ap (λ (l : List ℕ). bytes ++ l) (sym c.split_at.ensures.back) in
    let all : length bytes ≡ count =
    omega (arith, ap length c.split_at.ensures.front, length-take count rest, c.min-count.ensures, c.saturating_sub.ensures) in
    let next : c.saturating_add-self.result ≡ min (self.at + length bytes) (2 ^ 64 - 1) = omega (arith, all, c.saturating_add-self.ensures) in
    let many : length bytes ≡ min (c.args.upto - self.at) (length rest) = omega (arith, all, c.min-count.ensures, c.saturating_sub.ensures) in
    let m = nearer p receiver cut i.start i.taken (i.taken ++ bytes) xs (bytes ++ left) left self.judged c.judge_more.new.judged self.close c.args.watch.now
    c.judge_more.new.watch (λ q k. c.in_ok-judge_more.ensures q receiver i.start i.taken xs left k)
    (subst (λ (l : List ℕ). IsReplayOf p receiver cut i.start i.taken xs l self.judged self.close) parts i.is) in (
      m.0,
      record {
        begun = i.begun;
        start = i.start;
        taken = i.taken ++ bytes;
        is = m.1;
        place = place_more i.start self.at c.saturating_add-self.result i.taken bytes i.place next;
        reached = reached_more i.start n c.args.upto self.at i.taken rest bytes left self.close i.place (omega (arith, c.ranges.upto.fits)) parts many short
            i.reached;
      },
      m.2,
    )
