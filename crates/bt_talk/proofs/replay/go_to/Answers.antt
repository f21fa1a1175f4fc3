use Rattle.std.proofs.Common.{◌≡◌, ◌∙◌, Bool, ◌++◌, ◌&&◌, [], ℕ, List, max, refl, sym, ap, subst}
use Rattle.bt_wire.specs.declared.item.Item.{Item}
use Rattle.bt_talk.specs.declared.watch.Watch.{Watch}
use Rattle.bt_talk.specs.Marks.{IsKnownTo}
use Rattle.bt_talk.specs.Replays.{IsReplay, with_more}
use Rattle.bt_talk.specs.Shown.{Turn, items_by, no_deeds}
use Rattle.bt_talk.proofs.Replays.{begin, items_mine, known_and, replayed}
use Rattle.bt_talk.proofs.Shown.{seen_deeds}
use Rattle.bt_talk.proofs.replay.go_to.Goals as goal
use Rattle.bt_talk.proofs.replay.go_to.Goals.{then-mark, else-mark}

pub returns : goal.returns
returns c = λ since p q x y n k before i j seen.
    let mark = c.args.mark.now in
    let known : Bool = c.if-mark.turn_to in
    let theirs = c.is_known-is_known.result in
    let is_known : known ≡ (mark.is_whole && theirs) =
    elim c.if-mark.branch [
      | then-mark w ↦ w.turn_to-is ∙ sym (ap (λ (b : Bool). b && theirs) w.if-mark.true)
      | else-mark w ↦ w.turn_to-is ∙ w.if-mark.false ∙ sym (ap (λ (b : Bool). b && theirs) w.if-mark.false)
    ] in
    let is = c.come_to.ensures ∙ ap (λ (z : Watch). record z { when = mark.when }) c.turn_to.ensures in
    let t0 : Turn = record { side = mark.side; known = known; when = mark.when; items = []; deeds = no_deeds } in
    let first = c.in_ok-pass_to.ensures.goes_on since p x.receiver x.cut n before t0
    (begin since p x.receiver x.cut n before mark.side known mark.when c.args.mine.now c.args.watch.now c.come_to.new.self is i seen) in
    let t : Turn = with_more t0 first.2 in
    let z = c.in_ok-judge_to.ensures p x.receiver x.cut first.0 (items_by mark.side before ++ t.items) c.in_ok-pass_to.ensures.short first.3.is in
    let reaches = max mark.length first.0 in
    let all : Turn = with_more t z.0 in
    let r = c.judge_to.new.self in
    let rest = replayed since p x.receiver x.cut reaches before t z.0 r c.pass_to.new.watch c.judge_to.new.watch first.3.turn z.1 z.2 first.3.seen in
    let now = subst (λ (m : ℕ). IsReplay p x.receiver x.cut m (items_by mark.side before ++ all.items) r) first.1 rest.is in
    let d = c.in_ok-show.ensures.deeds p q x y (max mark.length n) k n _ _ now j (c.refusal-before.ensures p x.receiver x.cut n _ i) in
    record {
      turn = record all { deeds = d.0 };
      side = refl;
      when = refl;
      known = subst (λ (b : Bool). IsKnownTo y.receiver k q mark.is_whole b) (sym is_known)
          (known_and y.receiver k q mark.is_whole theirs (c.is_known-is_known.ensures q y.receiver y.cut k _ j));
      is = subst (λ (l : List (ℕ × Item)). IsReplay p x.receiver x.cut (max mark.length n) l r) (sym (items_mine all before)) now;
      begun = d.1;
      has_begun = d.2;
      deeds = d.3;
      seen = seen_deeds since before all d.0 c.judge_to.new.watch c.show.new.watch c.show.ensures.rest rest.turn d.4 rest.seen;
      now = ap (λ (w : Watch). w.when) c.show.ensures.rest ∙ rest.turn.when;
    }
