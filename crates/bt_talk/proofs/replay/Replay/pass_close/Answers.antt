use Rattle.std.proofs.Common.{◌≡◌, ◌+◌, ◌-◌, ◌^◌, min, ◌++◌, [], append-nil, length, ℕ, List, Option, Some, refl, sym, ap, subst, arith}
use Rattle.bt_rows.specs.declared.said.Said.{Said}
use Rattle.bt_talk.specs.declared.replay.Close.{Close}
use Rattle.bt_talk.specs.declared.replay.Close.TheVariants.{Passed}
use Rattle.bt_talk.specs.declared.replay.Replay.{Replay}
use Rattle.bt_talk.specs.Replays.{IsReached, IsReplayOf, IsReplayBy, PassesAt, is_passed}
use Rattle.bt_talk.specs.Marks.{upto}
use Rattle.bt_talk.specs.Shown.{items_by}
use Rattle.bt_talk.specs.Watching.{IsLast}
use Rattle.bt_talk.proofs.Replays.{past_close, passed_at, place_more, reached_close, replayed, last_after, stays}
use Rattle.bt_talk.proofs.replay.Replay.pass_close.Goals as goal

pub returns-in_default-clause-goes_on : goal.returns-in_default-clause-goes_on
returns-in_default-clause-goes_on c = λ since p receiver cut n before t i.
    (n, passed_at n c.args.self.now.close (ap is_passed c.in_default.is), [], stays since p receiver cut n before t c.args.self.now c.args.watch.now i)

pub returns-clause-goes_on : goal.returns-clause-goes_on
returns-clause-goes_on c = λ since p receiver cut n before t i.
    let self = c.args.self.now in
    let k = c.in-Ahead.count in
    let after = c.in-Ahead.after.now in
    let w = c.args.watch.now in
    let w' = c.judge_more.new.watch in
    let items = items_by t.side before ++ t.items in
    let start = i.is.start in
    let taken = i.is.taken in
    let rest = self.rest.now in
    let now = subst (λ (x : Close). IsReplayOf p receiver cut start taken items rest self.judged x) c.in-Ahead.is i.is.is in
    let reached = subst (λ (x : Close). IsReached start n taken rest x) c.in-Ahead.is i.is.reached in
    let by = subst (λ (l : List ℕ). IsReplayBy (upto k p) receiver start taken items l self.judged) (sym (append-nil rest)) now.1 in
    let m = c.in_ok-judge_more.ensures (upto k p) receiver start taken items [] by in
    let xs = items ++ m.0 in
    let is_last = subst (λ (o : Option Said). IsLast xs o) (sym c.last.ensures) (last_after since before t m.0 w w' i.turn m.2 i.seen) in
    let cut_by = c.last_of-last.ensures (upto k p) receiver start (taken ++ rest) xs m.1 is_last in
    let next : c.saturating_add-self.result ≡ min (self.at + length rest) (2 ^ 64 - 1) = omega (arith, c.saturating_add-self.ensures) in
    let r : Replay = record {
      start = self.start;
      rest = c.in-Ahead.after;
      at = c.saturating_add-self.result;
      judged = c.judge_more.new.judged;
      close = Passed (Some (record { length = k; last = c.last_of-last.result }));
    } in (
      k,
      subst (λ (x : Close). PassesAt x n k) (sym c.in-Ahead.is) (reached.0, refl),
      m.0,
      replayed since p receiver cut k before t m.0 r w w' i.turn
          (record {
            begun = i.is.begun;
            start = start;
            taken = taken ++ rest;
            is = (now.0, past_close p k receiver start (taken ++ rest) xs after c.judge_more.new.judged now.2 m.1, cut_by);
            place = place_more start self.at c.saturating_add-self.result taken rest i.is.place next;
            reached = reached_close start k taken rest after reached.2;
          }) m.2 i.seen,
    )
