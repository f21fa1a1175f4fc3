use Rattle.std.proofs.Common.{◌≡◌, ◌∙◌, ℕ, List, [], Option, Some, drop, sym, ap, subst, arith}
use Rattle.bt_intro.specs.declared.settling.Receiver.{Receiver}
use Rattle.bt_judge.specs.Judges.{AreJudged}
use Rattle.bt_intro.specs.Hellos.{IsStartOf, IsFirstHello}
use Rattle.bt_talk.specs.declared.stage.Judged.{Judged}
use Rattle.bt_talk.specs.Cuts.{cut_length}
use Rattle.bt_talk.specs.Replays.{Held, IsReplay, IsReplayOf}
use Rattle.bt_talk.proofs.Receivers.{whole}
use Rattle.bt_talk.proofs.Replays.{begun, begun_reached}
use Rattle.bt_talk.proofs.replay.Replay.new.Goals as goal

pub returns-in_default : goal.returns-in_default
returns-in_default c = λ terms p q f all starts r.
    subst (λ (o : Option Receiver). IsReplay p o (cut_length c.args.cut.now) 0 [] c.none.result) (sym c.in_default.is) (c.none.ensures p starts)

pub returns : goal.returns
returns c = λ terms p q f all starts r.
    let start = c.in-Some-start.begin in
    let first : IsFirstHello p.front start = subst (λ (o : Option ℕ). IsStartOf p.front o) c.in-Some-start.is starts in
    let lookup = c.in-Some-get.ensures.lookup in
    let part : c.in-Some-get.bytes.now ≡ drop start p.out = lookup.0.2 ∙ whole c.args.front.now start lookup.0.0 ∙ ap (λ (l : List ℕ). drop start l) f in
    let held : Held = c.in_ok-judged.judged in
    let same : held.value ≡ record { receiver = c.in-Some.receiver; judge = c.in_ok-judge.judge } = c.in_ok-judged.ensures.ok in
    let judged = subst (λ (j : Judged). AreJudged j.receiver.own [] [] [] j.judge) (sym same) c.in_ok-judge.ensures in
    let rest = c.part_at.result.0.now in
    let close = c.part_at.result.1 in
    let cut = cut_length c.args.cut.now in
    let parted = c.part_at.ensures.parted p.out part in
    let k = begun p cut start rest held close first judged parted c.part_at.ensures.cut in
    record {
      begun = first;
      start = start;
      taken = [];
      is = subst (λ (o : Option Receiver). IsReplayOf p o cut start [] [] rest (Some held) close)
          (ap (λ (j : Judged). Some j.receiver) same ∙ sym c.in-Some.is) k;
      place = omega (arith, lookup.0.0);
      reached = begun_reached start p.out rest close parted;
    }
