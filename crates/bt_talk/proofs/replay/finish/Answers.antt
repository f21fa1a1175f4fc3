use Rattle.std.proofs.Common.{◌∙◌, ◌++◌, [], append-nil, append_assoc, ℕ, List, false, refl, sym, subst}
use Rattle.bt_wire.specs.declared.item.Item.{Item}
use Rattle.bt_talk.specs.Replays.{IsReplayOf, with_more}
use Rattle.bt_talk.specs.Stages.{AreItemsIn}
use Rattle.bt_talk.specs.Shown.{Turn, items_by, no_deeds}
use Rattle.bt_talk.proofs.Replays.{begin, items_mine, nearer, took_turn}
use Rattle.bt_talk.proofs.Shown.{seen_more}
use Rattle.bt_talk.proofs.replay.finish.Goals as goal

pub returns-clause-opened : goal.returns-clause-opened
returns-clause-opened c = λ since terms p q receiver cut n before r i h.
    let side = c.args.side in
    let old = c.args.watch.now in
    let t0 : Turn = record { side = side; known = false; when = old.when; items = []; deeds = no_deeds } in
    let x = c.in_ok-pass_close.ensures.goes_on since p receiver cut n before t0
    (begin since p receiver cut n before side false old.when _ old c.turn_to.new.self c.turn_to.ensures i h) in
    let t : Turn = with_more t0 x.2 in
    let y = x.3 in
    let rp = c.pass_close.new.self in
    let rest = rp.rest.now in
    let w = c.pass_close.new.watch in
    let w' = c.judge_more.new.watch in
    let start = y.is.start in
    let taken = y.is.taken in
    let items = items_by side before ++ t.items in
    let by = subst (λ (l : List ℕ). IsReplayOf p receiver cut start taken items l rp.judged rp.close) (sym (append-nil rest)) y.is.is in
    let m = nearer p receiver cut start taken (taken ++ rest) items (rest ++ []) [] rp.judged c.judge_more.new.judged rp.close w w'
    (λ q k. c.in_ok-judge_more.ensures q receiver start taken items [] k) by in
    let o = c.after_opening.ensures.opened terms p q receiver cut start (taken ++ rest) (items ++ m.0) r m.1 c.in_ok-pass_close.ensures.passed in
    let all : Turn = with_more t m.0 in
    record {
      turn = all;
      side_is = refl;
      known = refl;
      deeds = refl;
      when = refl;
      now = (took_turn t m.0 w w' m.2 y.turn).when;
      is = o.0;
      by = o.2;
      items_are = subst (λ (l : List (ℕ × Item)). AreItemsIn c.after_opening.result.stage p l)
          (sym (items_mine all before ∙ sym (append_assoc (items_by side before) t.items m.0))) o.1;
      seen = seen_more since before t m.0 w w' y.turn m.2 y.seen;
    }
