use Rattle.std.proofs.Common.{◌∙◌, Bool, [], ◌++◌, Some, refl, sym, ap, subst}
use Rattle.bt_talk.specs.declared.stage.Judged.{Judged}
use Rattle.bt_talk.specs.declared.stage.Stage.{Stage}
use Rattle.bt_talk.specs.Pasts.{Adds}
use Rattle.bt_talk.specs.Receivers.{IsReceiver, IsJudgedBy, AreItems}
use Rattle.bt_talk.specs.Sent.{IsReady}
use Rattle.bt_talk.specs.Stages.{IsStage, AreItemsIn, is_opening, receiver_in}
use Rattle.bt_talk.specs.Cuts.{cut_length}
use Rattle.bt_talk.proofs.Cuts.{within_more}
use Rattle.bt_talk.proofs.Items.{nothing_more}
use Rattle.bt_talk.proofs.Receivers.{receiver_same}
use Rattle.bt_talk.proofs.Stages.{goes_on, in_opening}
use Rattle.bt_talk.proofs.direction.Direction.take.Goals as goal

pub returns-in_ok-take_opening-in-Opening-clause-taken : goal.returns-in_ok-take_opening-in-Opening-clause-taken
returns-in_ok-take_opening-in-Opening-clause-taken c = λ terms p other d.
    let s = subst (λ (s : Stage). IsStage terms p other s) c.in-Opening.is d.stage in
    let r = c.in_ok-take_opening-in-Opening.ensures p d.flow d.intro s.0 s.1 in (
      r.0,
      in_opening terms r.0 other _ r.1 r.2 r.4.front refl (within_more (cut_length c.args.self.now.cut) p.out r.4.more r.0.out r.4.out d.within)
          (r.3, r.4.front),
      subst (λ (o : Bool). Adds c.args.given.now o p c.args.self.now.flow r.0 c.take_opening.new.flow) (sym (ap is_opening c.in-Opening.is)) r.4,
      λ xs i. ([], nothing_more xs (subst (λ (s : Stage). AreItemsIn s p xs) c.in-Opening.is i), refl),
      λ e. subst (λ (o : Bool). IsReady o c.args.is_wanted p r.0 c.args.out.now.items) (sym (ap is_opening c.in-Opening.is)) e,
    )

pub returns-in_ok-take_judged-in-Open-clause-taken : goal.returns-in_ok-take_judged-in-Open-clause-taken
returns-in_ok-take_judged-in-Open-clause-taken c = λ terms p other d.
    let j = c.deref_mut.result.now in
    let same = c.deref_mut.ensures.value in
    let s = subst (λ (k : Judged). IsReceiver terms p other (Some k.receiver) × IsJudgedBy k.receiver.own p k.judge) (sym same)
    (subst (λ (s : Stage). IsStage terms p other s) c.in-Open.is d.stage) in
    let r = c.in_ok-take_judged-in-Open.ensures j.receiver.own p d.later d.flow d.front s.1 in (
      r.0,
      goes_on c.args.given.now terms p other r.0 c.args.self.now _ refl (ap (λ (k : Judged). Some k.receiver) same ∙ sym (ap receiver_in c.in-Open.is)) refl
          d r.1 r.3 (receiver_same terms p other r.0 other (Some j.receiver) r.3.front refl s.0, r.2),
      subst (λ (o : Bool). Adds c.args.given.now o p c.args.self.now.flow r.0 c.take_judged.new.flow) (sym (ap is_opening c.in-Open.is)) r.3,
      λ xs i. r.4 xs (subst (λ (k : Judged). AreItems k.receiver.own p xs) (sym same) (subst (λ (s : Stage). AreItemsIn s p xs) c.in-Open.is i)),
      λ e. subst (λ (o : Bool). IsReady o c.args.is_wanted p r.0 c.take_judged.new.out.items) (sym (ap is_opening c.in-Open.is)) r.5,
    )

pub returns-in_ok-take_only-in-Stranger-clause-taken : goal.returns-in_ok-take_only-in-Stranger-clause-taken
returns-in_ok-take_only-in-Stranger-clause-taken c = λ terms p other d.
    let s = subst (λ (s : Stage). IsStage terms p other s) c.in-Stranger.is d.stage in
    let r = c.in_ok-take_only-in-Stranger.ensures p d.flow in (
      r.0,
      goes_on c.args.given.now terms p other r.0 c.args.self.now _ refl refl refl d r.1 r.2
          (subst (λ (s : Stage). IsStage terms r.0 other s) (sym c.in-Stranger.is) (receiver_same terms p other r.0 other _ r.2.front refl s)),
      subst (λ (o : Bool). Adds c.args.given.now o p c.args.self.now.flow r.0 c.take_only.new.flow) (sym (ap is_opening c.in-Stranger.is)) r.2,
      λ xs i. (
        [],
        subst (λ (s : Stage). AreItemsIn s r.0 (xs ++ [])) (sym c.in-Stranger.is)
            (nothing_more xs (subst (λ (s : Stage). AreItemsIn s p xs) c.in-Stranger.is i)),
        refl,
      ),
      λ e. subst (λ (o : Bool). IsReady o c.args.is_wanted p r.0 c.take_only.new.out.items) (sym (ap is_opening c.in-Stranger.is)) r.3,
    )
