use Rattle.std.proofs.Common.{◌≡◌, ◌∙◌, None, subst, sym}
use Rattle.bt_wire.specs.Handshakes.{hand_fault}
use Rattle.bt_feed.specs.declared.stage.Goal.TheVariants as goals
use Rattle.bt_feed.specs.declared.stage.Stage.{Stage}
use Rattle.bt_feed.specs.declared.stage.Stage.TheVariants as stage
use Rattle.bt_feed.specs.Progress.{IsGoal}
use Rattle.bt_feed.proofs.Closed.{closed_early}
use Rattle.bt_feed.proofs.Goals.{none_from, hash_goal, end_goal, need_goal}
use Rattle.bt_feed.proofs.stage.Stage.next_goal.Goals as goal

pub returns-then-held-lt48 : goal.returns-then-held-lt48
returns-then-held-lt48 c =
    let P : Stage → Type 0 = λ t. IsGoal t c.args.held.now (goals.Until 48) in
    let none : hand_fault c.in-Handshake.own c.args.held.now ≡ None = sym c.judge_handshake.ensures ∙ none_from c.judge_handshake.result _ c.is_some.ensures
    c.if-held-ge68.false.0 in
    subst P (sym c.in-Handshake.is) (hash_goal _ _ none c.if-held-lt20.false c.if-held-lt48.true)

pub returns-else-held-lt48 : goal.returns-else-held-lt48
returns-else-held-lt48 c =
    let P : Stage → Type 0 = λ t. IsGoal t c.args.held.now (goals.Until 68) in
    let none : hand_fault c.in-Handshake.own c.args.held.now ≡ None = sym c.judge_handshake.ensures ∙ none_from c.judge_handshake.result _ c.is_some.ensures
    c.if-held-ge68.false.0 in
    subst P (sym c.in-Handshake.is) (end_goal _ _ none c.if-held-lt48.false c.if-held-ge68.false.1)

pub returns-in-Need : goal.returns-in-Need
returns-in-Need c =
    let P : Stage → Type 0 = λ t. IsGoal t c.args.held.now (goals.Until c.in-Need.count) in
    subst P (sym c.in-Message.is) (need_goal _ _ _ c.in-Message.number _ _ c.in-Need.ensures.0 c.in-Need.ensures.1)

pub returns-in-Refused : goal.returns-in-Refused
returns-in-Refused c =
    let P : Stage → Type 0 = λ t. IsGoal t c.args.held.now goals.Closed in
    subst P (sym c.in-Message.is) (closed_early (stage.Message c.in-Message.context c.in-Message.order c.in-Message.start c.in-Message.number)
    c.args.held.now (record { at = c.in-Refused.at; reason = c.in-Refused.reason }) c.in-Refused.ensures)
