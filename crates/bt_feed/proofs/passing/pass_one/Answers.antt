use Rattle.std.proofs.Common.{ℕ, List, sym, subst}
use Rattle.bt_wire.specs.Headers.{IsRead}
use Rattle.bt_wire.specs.Messages.{message_of}
use Rattle.bt_feed.proofs.Windows.{window_size}
use Rattle.bt_feed.proofs.Passed.{front_range, window_there}
use Rattle.bt_feed.proofs.passing.pass_one.Goals as goal

pub view_window-requires : goal.view_window-requires
view_window-requires g c =
    window_there c.args.context.now c.args.order c.args.rest.now c.in-Some.window.now c.in-Window.length (sym c.in-Window.ensures)
    c.in-Some.ensures.lookup.0.1 (front_range c.args.rest.now c.in-Some.window.now c.in-Window.length c.in-Some.ensures.lookup.0.2)

pub returns-clause-some : goal.returns-clause-some
returns-clause-some g c =
    let rest = c.args.rest.now in
    let k = c.in-Window.length in
    let m = message_of c.in-Ok.message in
    let size = window_size c.args.context.now c.args.order rest k (sym c.in-Window.ensures) in
    let W : List ℕ → Type 0 = λ b. IsRead c.args.context.now c.args.order b m in (
      m,
      record {
        least = size.0;
        within = c.in-Some.ensures.lookup.0.1;
        most = size.1;
        read = subst W (front_range rest c.in-Some.window.now k c.in-Some.ensures.lookup.0.2) c.in-Ok.ensures.ok;
        leaves = c.next_of_view-order.ensures;
      },
      c.item-taken.ensures.items,
    )
