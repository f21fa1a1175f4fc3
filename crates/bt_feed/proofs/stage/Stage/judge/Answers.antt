use Rattle.std.proofs.Common.{◌≤◌, arith, subst, sym}
use Rattle.bt_wire.specs.declared.item.Item.TheVariants as items
use Rattle.bt_wire.specs.Messages.{message_of}
use Rattle.bt_feed.specs.declared.stage.Stage.{Stage}
use Rattle.bt_feed.specs.Stages.{IsItem, limit_of}
use Rattle.bt_feed.specs.Progress.{IsPartial}
use Rattle.bt_feed.proofs.Closed.{message_here}
use Rattle.bt_feed.proofs.stage.Stage.judge.Goals as goal

pub returns-in-Whole-read_front : goal.returns-in-Whole-read_front
returns-in-Whole-read_front c =
    let held = c.args.held.now in
    let P : Stage → Type 0 = λ t. IsItem t held (items.Message (message_of c.in-Whole-read_front.message)) in
    let Q : Stage → Type 0 = λ t. IsPartial t held in
    let R : Stage → Type 0 = λ t. limit_of t ≤ 1048576 in
    subst P (sym c.in-Message.is) (message_here _ _ _ _ _ held _ (omega (arith, subst R c.in-Message.is c.requires.limit))
    (subst Q c.in-Message.is c.requires.partial) c.in-Whole-read_front.ensures)
